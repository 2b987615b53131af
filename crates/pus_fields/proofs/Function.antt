-- The error control as a function is the error control.
use Rattle.std.proofs.Common.{◌≡◌, ℕ, zero, suc, ◌+◌, ◌*◌, ◌/◌, ◌%◌, ◌^◌, ◌<◌, Bool, true, false, eqb, if◌then◌else◌, List, [], ◌∷◌, ◌++◌, length, refl, sym, ap, subst, ◌∙◌, arith, length-append}
use Rattle.std.proofs.Math.Nat.{add-mod_left, div-eq_of_lt, div-eq_of_lt-le, mod-eq_of_lt}
use Rattle.pus_fields.specs.ErrorControl.{IsErrorControl, IsRemainder, bits, remainder_of, error_control, message, number_of_bits, octet_bits, multiple, low, sum_of, zeros}
use Rattle.pus_fields.proofs.Bits.{bits-cut, length-bits, one_number}
use Rattle.pus_fields.proofs.Division.{one_remainder, short, start, step}
use Rattle.pus_fields.proofs.Polynomials.{length-multiple, length-sum, length-zeros}

remainder_of-is : (n : ℕ) (p : List Bool) → length p ≡ n + 16 → IsRemainder p (remainder_of n p)
unfolding remainder_of
remainder_of-is zero p e = short p (omega (arith, e))
remainder_of-is (suc n) [] e = absurd (omega (arith, e))
remainder_of-is (suc n) (b ∷ p) e =
    let low_len : length (multiple b low ++ zeros n) ≡ n + 16 = omega (arith, length-append (multiple b low) (zeros n), length-multiple b low, length-zeros n) in
    let rest_len : length p ≡ n + 16 = omega (arith, e) in
    let sum_len : length (sum_of p (multiple b low ++ zeros n)) ≡ n + 16 = omega (arith, length-sum p (multiple b low ++ zeros n) (omega arith)) in
    step b n p _ rest_len (remainder_of-is n (sum_of p (multiple b low ++ zeros n)) sum_len)

number-lt : (p : List Bool) → number_of_bits p < 2 ^ length p
unfolding number_of_bits
number-lt [] = omega arith
number-lt (true ∷ p) = let h = number-lt p in grind arith
number-lt (false ∷ p) = let h = number-lt p in grind arith

highest : (b : Bool) (k m : ℕ) → m < 2 ^ k → eqb (((if b then 2 ^ k else 0) + m) / 2 ^ k % 2) 1 ≡ b
highest true k m h =
    let e : (2 ^ k + m) / 2 ^ k ≡ 1 = div-eq_of_lt-le (2 ^ k) (omega arith) (omega arith) in
    rw e refl
highest false k m h =
    let whole : 0 + m ≡ m = omega arith in
    let e : m / 2 ^ k ≡ 0 = div-eq_of_lt h in
    rw (whole, e) refl

others : (b : Bool) (k m : ℕ) → m < 2 ^ k → ((if b then 2 ^ k else 0) + m) % 2 ^ k ≡ m
others true k m h = add-mod_left (2 ^ k) m ∙ mod-eq_of_lt h
others false k m h =
    let whole : 0 + m ≡ m = omega arith in
    rw whole (mod-eq_of_lt h)

pub bits-number : (p : List Bool) → bits (length p) (number_of_bits p) ≡ p
unfolding number_of_bits
bits-number [] = refl
bits-number (b ∷ p) =
    let m = number_of_bits p in
    let h = number-lt p in
    let tail : bits (length p) ((if b then 2 ^ length p else 0) + m) ≡ p = sym (bits-cut (length p) (length p) ((if b then 2 ^ length p else 0) + m) (omega arith)) ∙ ap (bits (length p)) (others b (length p) m h) ∙ bits-number p in
    rw (highest b (length p) m h, tail) refl

length-octet_bits : (octets : List ℕ) → length (octet_bits octets) ≡ 8 * length octets
length-octet_bits [] = refl
length-octet_bits (octet ∷ octets) = omega (arith, length-append (bits 8 octet) (octet_bits octets), length-bits 8 octet, length-octet_bits octets)

length-message : (octets : List ℕ) → length (message octets) ≡ 8 * length octets + 16
length-message octets =
    let b = octet_bits octets in
    let upper : length (b ++ zeros 16) ≡ 8 * length octets + 16 = omega (arith, length-append b (zeros 16), length-octet_bits octets) in
    let lower : length (bits 16 65535 ++ zeros (length b)) ≡ 8 * length octets + 16 = omega (arith, length-append (bits 16 65535) (zeros (length b)), length-zeros (length b), length-octet_bits octets) in
    ap length (start octets) ∙ length-sum (b ++ zeros 16) (bits 16 65535 ++ zeros (length b)) (omega arith) ∙ upper

pub error_control-is : (octets : List ℕ) → IsErrorControl octets (error_control octets)
unfolding IsErrorControl error_control
error_control-is octets =
    let r = remainder_of (8 * length octets) (message octets) in
    let h : IsRemainder (message octets) r = remainder_of-is (8 * length octets) (message octets) (length-message octets) in
    let e : bits 16 (number_of_bits r) ≡ r = ap (λ (k : ℕ). bits k (number_of_bits r)) (sym h.width) ∙ bits-number r in
    subst (λ (t : List Bool). IsRemainder (message octets) t) (sym e) h

pub error_control-lt : (octets : List ℕ) → error_control octets < 2 ^ 16
unfolding error_control
error_control-lt octets =
    let r = remainder_of (8 * length octets) (message octets) in
    let h : IsRemainder (message octets) r = remainder_of-is (8 * length octets) (message octets) (length-message octets) in
    subst (λ (k : ℕ). number_of_bits r < 2 ^ k) h.width (number-lt r)

-- octets have one error control
pub one_control : (octets : List ℕ) (a b : ℕ) → a < 2 ^ 16 → b < 2 ^ 16 → IsErrorControl octets a → IsErrorControl octets b → a ≡ b
unfolding IsErrorControl
one_control octets a b p q h k = one_number 16 a b p q (one_remainder _ _ _ h k)

-- a number is the error control if and only if it is the function's
pub same_control : (octets : List ℕ) (a : ℕ) → a < 2 ^ 16 → IsErrorControl octets a → a ≡ error_control octets
same_control octets a p h = one_control octets a (error_control octets) p (error_control-lt octets) h (error_control-is octets)
