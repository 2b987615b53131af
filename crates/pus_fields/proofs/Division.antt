-- The division, from the highest coefficient down.
use Rattle.std.proofs.Common.{◌≡◌, ℕ, zero, suc, ◌+◌, Bool, true, false, List, [], ◌∷◌, ◌++◌, length, take, drop, refl, sym, ap, ◌∙◌, arith, append_assoc, length-append}
use Rattle.pus_fields.specs.ErrorControl.{sum_of, zeros, multiple, low, generator, product, inversion, IsRemainder, octet_bits, message, bits}
use Rattle.pus_fields.specs.Mirror.Register.{dividend, shifted_bits}
use Rattle.pus_fields.proofs.Polynomials.{plus-comm, plus-false, sum-assoc, sum-comm, length-zeros, zeros-sum, sum-self, sum-zeros_zeros, length-sum, sum-append, length-multiple, sum-cancel}

multiple_of_generator : (b : Bool) → multiple b generator ≡ b ∷ multiple b low
multiple_of_generator false = refl
multiple_of_generator true = refl

pub length-product : (q : List Bool) → length (product q) ≡ length q + 16
length-product [] = refl
length-product (b ∷ q) =
    let s : length (multiple b generator ++ zeros (length q)) ≡ length q + 17 = omega (arith, length-append (multiple b generator) (zeros (length q)), length-multiple b generator, length-zeros (length q)) in
    let e : length (multiple b generator ++ zeros (length q)) ≡ length (false ∷ product q) = omega (arith, s, length-product q) in
    omega (arith, length-sum (multiple b generator ++ zeros (length q)) (false ∷ product q) e, s)

-- the product without its first coefficient, which is b
under : Bool → List Bool → List Bool
under b q = sum_of (multiple b low ++ zeros (length q)) (product q)

product-cons : (b : Bool) (q : List Bool) → product (b ∷ q) ≡ b ∷ under b q
unfolding under
product-cons b q = rw (multiple_of_generator b) (rw (plus-false b) refl)

length-low : (b : Bool) (q : List Bool) → length (multiple b low ++ zeros (length q)) ≡ length q + 16
length-low b q = omega (arith, length-append (multiple b low) (zeros (length q)), length-multiple b low, length-zeros (length q))

-- one step of the division
pub step : (b : Bool) (n : ℕ) (p r : List Bool) → length p ≡ n + 16 → IsRemainder (sum_of p (multiple b low ++ zeros n)) r → IsRemainder (b ∷ p) r
unfolding under
step b n p r len h =
    let q = h.quotient in
    let low_len : length (multiple b low ++ zeros n) ≡ n + 16 = omega (arith, length-append (multiple b low) (zeros n), length-multiple b low, length-zeros n) in
    let sum_len : length (sum_of p (multiple b low ++ zeros n)) ≡ n + 16 = omega (arith, length-sum p (multiple b low ++ zeros n) (omega arith)) in
    let same : length q ≡ n = omega (arith, h.size) in
    let sub = multiple b low ++ zeros n in
    let tail = zeros (length q) ++ r in
    let twice : sum_of sub (sum_of sub p) ≡ p = sym (sum-assoc sub sub p) ∙ ap (λ (t : List Bool). sum_of t p) (sum-self sub) ∙ zeros-sum (length sub) p (omega arith) in
    let under_is : under b q ≡ sum_of sub (product q) = ap (λ (k : ℕ). sum_of (multiple b low ++ zeros k) (product q)) same in
    let whole : sum_of (under b q) tail ≡ p = ap (λ (t : List Bool). sum_of t tail) under_is ∙ sum-assoc sub (product q) tail ∙ ap (sum_of sub) (sym h.parts ∙ sum-comm p sub) ∙ twice in
    let all : sum_of (product (b ∷ q)) (false ∷ tail) ≡ b ∷ p = ap (λ (t : List Bool). sum_of t (false ∷ tail)) (product-cons b q) ∙ rw (plus-false b, whole) refl in
    record { quotient = b ∷ q; size = omega (arith, len, same); width = h.width; parts = sym all }

-- what is short is its own remainder
pub short : (r : List Bool) → length r ≡ 16 → IsRemainder r r
short r len = record { quotient = []; size = omega (arith, len); width = len; parts = sym (zeros-sum 16 r len) }

one_quotient : (q s x y : List Bool) → length q ≡ length s → length x ≡ 16 → length y ≡ 16
    → sum_of (product q) (zeros (length q) ++ x) ≡ sum_of (product s) (zeros (length s) ++ y) → x ≡ y
unfolding under
one_quotient [] [] x y e f g h = sym (zeros-sum 16 x f) ∙ h ∙ zeros-sum 16 y g
one_quotient [] (c ∷ s) x y e f g h = absurd (omega (arith, e))
one_quotient (b ∷ q) [] x y e f g h = absurd (omega (arith, e))
one_quotient (b ∷ q) (c ∷ s) x y e f g h =
    let len : length q ≡ length s = omega (arith, e) in
    let left : sum_of (product (b ∷ q)) (false ∷ (zeros (length q) ++ x)) ≡ b ∷ sum_of (under b q) (zeros (length q) ++ x) = ap (λ (t : List Bool). sum_of t (false ∷ (zeros (length q) ++ x))) (product-cons b q) ∙ rw (plus-false b) refl in
    let right : sum_of (product (c ∷ s)) (false ∷ (zeros (length s) ++ y)) ≡ c ∷ sum_of (under c s) (zeros (length s) ++ y) = ap (λ (t : List Bool). sum_of t (false ∷ (zeros (length s) ++ y))) (product-cons c s) ∙ rw (plus-false c) refl in
    let both : b ∷ sum_of (under b q) (zeros (length q) ++ x) ≡ c ∷ sum_of (under c s) (zeros (length s) ++ y) = sym left ∙ h ∙ right in
    let heads : b ≡ c = cc in
    let tails : sum_of (under b q) (zeros (length q) ++ x) ≡ sum_of (under c s) (zeros (length s) ++ y) = cc in
    let u = zeros (length q) ++ x in
    let v = zeros (length s) ++ y in
    let sub = multiple b low ++ zeros (length q) in
    let u_len : length u ≡ length q + 16 = omega (arith, length-append (zeros (length q)) x, length-zeros (length q)) in
    let v_len : length v ≡ length q + 16 = omega (arith, length-append (zeros (length s)) y, length-zeros (length s)) in
    let l1 : length (sum_of (product q) u) ≡ length q + 16 = omega (arith, length-sum (product q) u (omega (arith, length-product q)), length-product q) in
    let l2 : length (sum_of (product s) v) ≡ length q + 16 = omega (arith, length-sum (product s) v (omega (arith, length-product s)), length-product s) in
    let right_sub : under c s ≡ sum_of sub (product s) = ap (λ (k : ℕ). sum_of (multiple c low ++ zeros k) (product s)) (sym len) ∙ ap (λ (k : Bool). sum_of (multiple k low ++ zeros (length q)) (product s)) (sym heads) in
    let shared : sum_of sub (sum_of (product q) u) ≡ sum_of sub (sum_of (product s) v) = sym (sum-assoc sub (product q) u) ∙ tails ∙ ap (λ (t : List Bool). sum_of t v) right_sub ∙ sum-assoc sub (product s) v in
    one_quotient q s x y len f g (sum-cancel sub _ _ (omega (arith, length-low b q)) (omega (arith, length-low b q)) shared)

-- a dividend has one remainder
pub one_remainder : (p x y : List Bool) → IsRemainder p x → IsRemainder p y → x ≡ y
one_remainder p x y a b = one_quotient a.quotient b.quotient x y (omega (arith, a.size, b.size)) a.width b.width (sym a.parts ∙ b.parts)

-- ---- the register

-- a shift is a step of the division
pub shift_step : (top : Bool) (s rest r : List Bool) → length s ≡ 15 → IsRemainder (dividend (shifted_bits (top ∷ s)) rest) r → IsRemainder (dividend (top ∷ s) (false ∷ rest)) r
shift_step top s rest r len h =
    let m = rest ++ zeros 16 in
    let n = length rest in
    let low_len : length (multiple top low) ≡ 16 = length-multiple top low in
    let s_len : length (s ++ false ∷ []) ≡ 16 = omega (arith, length-append s (false ∷ [])) in
    let m_len : length m ≡ n + 16 = length-append rest (zeros 16) in
    let state_len : length ((s ++ false ∷ []) ++ zeros n) ≡ n + 16 = omega (arith, length-append (s ++ false ∷ []) (zeros n), length-zeros n) in
    let p = sum_of m ((s ++ false ∷ []) ++ zeros n) in
    let joined : sum_of ((s ++ false ∷ []) ++ zeros n) (multiple top low ++ zeros n) ≡ shifted_bits (top ∷ s) ++ zeros n =
    sum-append (s ++ false ∷ []) (zeros n) (multiple top low) (zeros n) (omega arith) ∙ ap (λ (t : List Bool). sum_of (s ++ false ∷ []) (multiple top low) ++ t) (sum-zeros_zeros n) in
    let next : sum_of p (multiple top low ++ zeros n) ≡ dividend (shifted_bits (top ∷ s)) rest = sum-assoc m ((s ++ false ∷ []) ++ zeros n) (multiple top low ++ zeros n) ∙ ap (sum_of m) joined in
    let P : List Bool → Type 0 = λ t. IsRemainder t r in
    let stepped : IsRemainder (top ∷ p) r = step top n p r (omega (arith, length-sum m ((s ++ false ∷ []) ++ zeros n) (omega arith))) (rw next h) in
    let regrouped : top ∷ p ≡ dividend (top ∷ s) (false ∷ rest) = ap (λ (t : List Bool). top ∷ sum_of m t) (append_assoc s (false ∷ []) (zeros n)) in
    rw (← regrouped) stepped

-- an octet that is added to the upper half of the register stands for the octet at the front
pub feed_step : (b7 b6 b5 b4 b3 b2 b1 b0 s15 s14 s13 s12 s11 s10 s9 s8 s7 s6 s5 s4 s3 s2 s1 s0 : Bool) (rest : List Bool)
    → let octet = b7 ∷ b6 ∷ b5 ∷ b4 ∷ b3 ∷ b2 ∷ b1 ∷ b0 ∷ [] in
    let s = s15 ∷ s14 ∷ s13 ∷ s12 ∷ s11 ∷ s10 ∷ s9 ∷ s8 ∷ s7 ∷ s6 ∷ s5 ∷ s4 ∷ s3 ∷ s2 ∷ s1 ∷ s0 ∷ [] in
    dividend (sum_of s (octet ++ zeros 8)) (zeros 8 ++ rest) ≡ dividend s (octet ++ rest)
feed_step b7 b6 b5 b4 b3 b2 b1 b0 s15 s14 s13 s12 s11 s10 s9 s8 s7 s6 s5 s4 s3 s2 s1 s0 rest =
    rw (
      plus-comm s15 b7,
      plus-comm s14 b6,
      plus-comm s13 b5,
      plus-comm s12 b4,
      plus-comm s11 b3,
      plus-comm s10 b2,
      plus-comm s9 b1,
      plus-comm s8 b0,
      plus-false s7,
      plus-false s6,
      plus-false s5,
      plus-false s4,
      plus-false s3,
      plus-false s2,
      plus-false s1,
      plus-false s0,
    ) refl

-- ---- the start

ones : ℕ → List Bool
ones zero = []
ones (suc n) = true ∷ ones n

inverted_front : (k n : ℕ) (p : List Bool) → length p ≡ n + k → inversion (take k p) ++ drop k p ≡ sum_of p (ones k ++ zeros n)
unfolding ones
inverted_front zero n p e = sym (sum-comm p (zeros n) ∙ zeros-sum n p (omega (arith, e)))
inverted_front (suc k) n [] e = refl
inverted_front (suc k) n (a ∷ p) e = rw (plus-comm true a, inverted_front k n p (omega (arith, e))) refl

pub start : (octets : List ℕ) → message octets ≡ dividend (bits 16 65535) (octet_bits octets)
unfolding ones
start octets = inverted_front 16 (length (octet_bits octets)) (octet_bits octets ++ zeros 16) (omega (arith, length-append (octet_bits octets) (zeros 16)))
