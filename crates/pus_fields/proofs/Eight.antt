-- The register after several octets at a time: its steps are linear.
use Rattle.std.proofs.Common.{◌≡◌, ℕ, zero, suc, ◌+◌, ◌*◌, ◌/◌, ◌%◌, ◌^◌, eqb, Bool, true, false, List, [], ◌∷◌, ◌++◌, length, get_or, take, drop, refl, sym, ap, subst, ◌∙◌, arith, append_assoc, length-append}
use Rattle.std.specs.Prelude.{bit_xor}
use Rattle.std.proofs.lemmas.List.{append-nil, take-append-drop}
use Rattle.pus_fields.specs.ErrorControl.{IsRemainder, plus, sum_of, bits, zeros, octet_bits, multiple, low, number_of_bits}
use Rattle.pus_fields.specs.Mirror.Register.{dividend, shifted_bits, shifts, register_after}
use Rattle.pus_fields.proofs.Polynomials.{sum-assoc, sum-comm, length-zeros, zeros-sum, length-sum, sum-append, length-multiple}
use Rattle.pus_fields.proofs.Bits.{bits-cut, bits-octet, bits-xor, length-bits}
use Rattle.pus_fields.proofs.Division.{shift_step, feed_step}
use Rattle.pus_fields.proofs.Function.{bits-number}

-- ---- one step

length-shifted : (p : List Bool) → length p ≡ 16 → length (shifted_bits p) ≡ 16
length-shifted [] e = absurd (omega (arith, e))
length-shifted (b ∷ p) e =
    let front : length (p ++ false ∷ []) ≡ 16 = omega (arith, length-append p (false ∷ []), e) in
    length-sum (p ++ false ∷ []) (multiple b low) (front ∙ sym (length-multiple b low)) ∙ front

multiple-plus : (a b : Bool) → multiple (plus a b) low ≡ sum_of (multiple a low) (multiple b low)
multiple-plus false false = refl
multiple-plus false true = refl
multiple-plus true false = refl
multiple-plus true true = refl

-- the sum of two sums, exchanged
exchanged : (p q a b : List Bool) → sum_of (sum_of p q) (sum_of a b) ≡ sum_of (sum_of p a) (sum_of q b)
exchanged p q a b =
    sum-assoc p q (sum_of a b)
    ∙ ap (sum_of p) (sym (sum-assoc q a b) ∙ ap (λ (t : List Bool). sum_of t b) (sum-comm q a) ∙ sum-assoc a q b)
    ∙ sym (sum-assoc p a (sum_of q b))

shifted-sum : (p q : List Bool) → length p ≡ 16 → length q ≡ 16 → shifted_bits (sum_of p q) ≡ sum_of (shifted_bits p) (shifted_bits q)
shifted-sum [] q e f = absurd (omega (arith, e))
shifted-sum (a ∷ p) [] e f = absurd (omega (arith, f))
shifted-sum (a ∷ p) (b ∷ q) e f =
    let same : length p ≡ length q = omega (arith, e, f) in
    ap (λ (t : List Bool). sum_of t (multiple (plus a b) low)) (sym (sum-append p (false ∷ []) q (false ∷ []) same))
    ∙ ap (sum_of (sum_of (p ++ false ∷ []) (q ++ false ∷ []))) (multiple-plus a b)
    ∙ exchanged (p ++ false ∷ []) (q ++ false ∷ []) (multiple a low) (multiple b low)

-- ---- many steps

pub length-shifts : (n : ℕ) (p : List Bool) → length p ≡ 16 → length (shifts n p) ≡ 16
unfolding shifts
length-shifts zero p e = e
length-shifts (suc n) p e = length-shifts n (shifted_bits p) (length-shifted p e)

shifts-sum : (n : ℕ) (p q : List Bool) → length p ≡ 16 → length q ≡ 16 → shifts n (sum_of p q) ≡ sum_of (shifts n p) (shifts n q)
unfolding shifts
shifts-sum zero p q e f = refl
shifts-sum (suc n) p q e f = ap (shifts n) (shifted-sum p q e f) ∙ shifts-sum n (shifted_bits p) (shifted_bits q) (length-shifted p e) (length-shifted q f)

-- zeros leave the register as the rest moves up
shifts-zeros : (n : ℕ) (p : List Bool) → n + length p ≡ 16 → shifts n (zeros n ++ p) ≡ p ++ zeros n
unfolding shifts
shifts-zeros zero p e = sym (append-nil p)
shifts-zeros (suc n) p e =
    let front : length ((zeros n ++ p) ++ false ∷ []) ≡ 16 = omega (arith, length-append (zeros n ++ p) (false ∷ []), length-append (zeros n) p, length-zeros n, e) in
    let moved : shifted_bits (false ∷ (zeros n ++ p)) ≡ zeros n ++ (p ++ false ∷ []) =
    sum-comm ((zeros n ++ p) ++ false ∷ []) (zeros 16) ∙ zeros-sum 16 ((zeros n ++ p) ++ false ∷ []) front ∙ append_assoc (zeros n) p (false ∷ []) in
    let longer : n + length (p ++ false ∷ []) ≡ 16 = omega (arith, length-append p (false ∷ []), e) in
    ap (shifts n) moved ∙ shifts-zeros n (p ++ false ∷ []) longer ∙ append_assoc p (false ∷ []) (zeros n)

pub shifts-more : (n k : ℕ) (p : List Bool) → shifts k (shifts n p) ≡ shifts (n + k) p
unfolding shifts
shifts-more zero k p =
    let same : k ≡ 0 + k = omega arith in
    ap (λ (t : ℕ). shifts t p) same
shifts-more (suc n) k p =
    let same : suc n + k ≡ suc (n + k) = omega arith in
    shifts-more n k (shifted_bits p) ∙ ap (λ (t : ℕ). shifts t p) (sym same)

-- ---- steps divide

shifts_divide : (n : ℕ) (s rest r : List Bool) → length s ≡ 16 → IsRemainder (dividend (shifts n s) rest) r → IsRemainder (dividend s (zeros n ++ rest)) r
unfolding shifts
shifts_divide zero s rest r e h = h
shifts_divide (suc n) [] rest r e h = absurd (omega (arith, e))
shifts_divide (suc n) (b ∷ s) rest r e h = shift_step b s (zeros n ++ rest) r (omega (arith, e)) (shifts_divide n (shifted_bits (b ∷ s)) rest r (length-shifted (b ∷ s) e) h)

feeds : (s : List Bool) (octet : ℕ) (rest : List Bool) → length s ≡ 16 → dividend (sum_of s (bits 8 octet ++ zeros 8)) (zeros 8 ++ rest) ≡ dividend s (bits 8 octet ++ rest)
feeds s octet rest e =
    let o = λ (k : ℕ). eqb (octet / 2 ^ k % 2) 1 in
    let t = λ (k : ℕ). eqb (number_of_bits s / 2 ^ k % 2) 1 in
    let whole : bits 16 (number_of_bits s) ≡ s = ap (λ (n : ℕ). bits n (number_of_bits s)) (sym e) ∙ bits-number s in
    subst (λ (p : List Bool). dividend (sum_of p (bits 8 octet ++ zeros 8)) (zeros 8 ++ rest) ≡ dividend p (bits 8 octet ++ rest)) whole
    (feed_step (o 7) (o 6) (o 5) (o 4) (o 3) (o 2) (o 1) (o 0) (t 15) (t 14) (t 13) (t 12) (t 11) (t 10) (t 9) (t 8) (t 7) (t 6) (t 5) (t 4) (t 3) (t 2) (t 1) (t 0) rest)

length-octet : (octet : ℕ) → length (bits 8 octet ++ zeros 8) ≡ 16
length-octet octet = omega (arith, length-append (bits 8 octet) (zeros 8), length-bits 8 octet, length-zeros 8)

length-fed_one : (s : List Bool) (octet : ℕ) → length s ≡ 16 → length (sum_of s (bits 8 octet ++ zeros 8)) ≡ 16
length-fed_one s octet e = length-sum s (bits 8 octet ++ zeros 8) (e ∙ sym (length-octet octet)) ∙ e

-- a register that was fed octets has divided them
pub fed_divides : (octets : List ℕ) (s rest r : List Bool) → length s ≡ 16 → IsRemainder (dividend (register_after octets s) rest) r → IsRemainder (dividend s (octet_bits octets ++ rest)) r
unfolding register_after
fed_divides [] s rest r e h = h
fed_divides (octet ∷ octets) s rest r e h =
    let fed_one = sum_of s (bits 8 octet ++ zeros 8) in
    let len : length fed_one ≡ 16 = length-fed_one s octet e in
    let more = fed_divides octets (shifts 8 fed_one) rest r (length-shifts 8 fed_one len) h in
    let one = shifts_divide 8 fed_one (octet_bits octets ++ rest) r len more in
    let same : dividend fed_one (zeros 8 ++ (octet_bits octets ++ rest)) ≡ dividend s ((bits 8 octet ++ octet_bits octets) ++ rest) =
    feeds s octet (octet_bits octets ++ rest) e ∙ ap (dividend s) (sym (append_assoc (bits 8 octet) (octet_bits octets) rest)) in
    subst (λ (p : List Bool). IsRemainder p r) same one

-- ---- what octets contribute

-- the sum of the remainders of octets, each with what follows it
pub contribution : List ℕ → List Bool
contribution [] = zeros 16
contribution (octet ∷ octets) = sum_of (shifts (8 + 8 * length octets) (bits 8 octet ++ zeros 8)) (contribution octets)

fed-sum : (octets : List ℕ) (s : List Bool) → length s ≡ 16 → register_after octets s ≡ sum_of (shifts (8 * length octets) s) (contribution octets)
unfolding register_after contribution shifts
fed-sum [] s e = sym (sum-comm s (zeros 16) ∙ zeros-sum 16 s e)
fed-sum (octet ∷ octets) s e =
    let o = bits 8 octet ++ zeros 8 in
    let n = 8 * length octets in
    let one : shifts 8 (sum_of s o) ≡ sum_of (shifts 8 s) (shifts 8 o) = shifts-sum 8 s o e (length-octet octet) in
    let more : shifts n (sum_of (shifts 8 s) (shifts 8 o)) ≡ sum_of (shifts (8 + n) s) (shifts (8 + n) o) =
    shifts-sum n (shifts 8 s) (shifts 8 o) (length-shifts 8 s e) (length-shifts 8 o (length-octet octet))
    ∙ (λ i. sum_of (shifts-more 8 n s i) (shifts-more 8 n o i)) in
    let count : 8 + n ≡ 8 * suc (length octets) = omega arith in
    fed-sum octets (shifts 8 (sum_of s o)) (length-shifts 8 (sum_of s o) (length-fed_one s octet e))
    ∙ ap (λ (t : List Bool). sum_of (shifts n t) (contribution octets)) one
    ∙ ap (λ (t : List Bool). sum_of t (contribution octets)) more
    ∙ sum-assoc (shifts (8 + n) s) (shifts (8 + n) o) (contribution octets)
    ∙ ap (λ (k : ℕ). sum_of (shifts k s) (sum_of (shifts (8 + n) o) (contribution octets))) count

length-contribution : (octets : List ℕ) → length (contribution octets) ≡ 16
unfolding contribution
length-contribution [] = length-zeros 16
length-contribution (octet ∷ octets) =
    let one = length-shifts (8 + 8 * length octets) (bits 8 octet ++ zeros 8) (length-octet octet) in
    length-sum (shifts (8 + 8 * length octets) (bits 8 octet ++ zeros 8)) (contribution octets) (one ∙ sym (length-contribution octets)) ∙ one

-- the halves of a register
bits-split : (n : ℕ) → bits 16 n ≡ bits 8 (n / 256) ++ bits 8 (n % 256)
bits-split n =
    let d7 : n / 256 / 128 ≡ n / 32768 = omega arith in
    let d6 : n / 256 / 64 ≡ n / 16384 = omega arith in
    let d5 : n / 256 / 32 ≡ n / 8192 = omega arith in
    let d4 : n / 256 / 16 ≡ n / 4096 = omega arith in
    let d3 : n / 256 / 8 ≡ n / 2048 = omega arith in
    let d2 : n / 256 / 4 ≡ n / 1024 = omega arith in
    let d1 : n / 256 / 2 ≡ n / 512 = omega arith in
    let d0 : n / 256 / 1 ≡ n / 256 = omega arith in
    let upper : bits 8 (n / 256) ++ bits 8 n ≡ bits 16 n = rw (d7, d6, d5, d4, d3, d2, d1, d0) refl in
    sym upper ∙ ap (λ (t : List Bool). bits 8 (n / 256) ++ t) (sym (bits-cut 8 8 n (omega arith)))

-- a register fed an octet: the remainder of the octet with the upper half added, and the lower half
pub upper_and_lower : (n a : ℕ) → shifts 8 (sum_of (bits 16 n) (bits 8 a ++ zeros 8)) ≡ sum_of (shifts 8 (bits 8 (bit_xor a (n / 256)) ++ zeros 8)) (bits 8 (n % 256) ++ zeros 8)
upper_and_lower n a =
    let hi = bits 8 (n / 256) in
    let lo = bits 8 (n % 256) in
    let x = bits 8 (bit_xor a (n / 256)) in
    let lo_len : length (zeros 8 ++ lo) ≡ 16 = omega (arith, length-append (zeros 8) lo, length-bits 8 (n % 256), length-zeros 8) in
    let first : sum_of (bits 16 n) (bits 8 a ++ zeros 8) ≡ sum_of (x ++ zeros 8) (zeros 8 ++ lo) =
    ap (λ (t : List Bool). sum_of t (bits 8 a ++ zeros 8)) (bits-split n)
    ∙ sum-append hi lo (bits 8 a) (zeros 8) (length-bits 8 (n / 256) ∙ sym (length-bits 8 a))
    ∙ ap (λ (t : List Bool). t ++ sum_of lo (zeros 8)) (sum-comm hi (bits 8 a) ∙ sym (bits-xor 8 a (n / 256)))
    ∙ ap (λ (t : List Bool). x ++ t) (sum-comm lo (zeros 8))
    ∙ ap (λ (t : List Bool). t ++ sum_of (zeros 8) lo) (sym (zeros-sum 8 x (length-bits 8 (bit_xor a (n / 256)))) ∙ sum-comm (zeros 8) x)
    ∙ sym (sum-append x (zeros 8) (zeros 8) lo (length-bits 8 (bit_xor a (n / 256)) ∙ sym (length-zeros 8))) in
    ap (shifts 8) first
    ∙ shifts-sum 8 (x ++ zeros 8) (zeros 8 ++ lo) (length-octet (bit_xor a (n / 256))) lo_len
    ∙ ap (sum_of (shifts 8 (x ++ zeros 8))) (shifts-zeros 8 lo (omega (arith, length-bits 8 (n % 256))))

-- a register fed two octets is an empty one fed them with the register's halves added
halves : (n a b : ℕ) (octets : List ℕ) → register_after (a ∷ b ∷ octets) (bits 16 n) ≡ register_after (bit_xor a (n / 256) ∷ bit_xor b (n % 256) ∷ octets) (zeros 16)
unfolding register_after
halves n a b octets =
    let lo = bits 8 (n % 256) in
    let x = bits 8 (bit_xor a (n / 256)) in
    let y = bits 8 (bit_xor b (n % 256)) in
    let second : sum_of (lo ++ zeros 8) (bits 8 b ++ zeros 8) ≡ y ++ zeros 8 =
    sum-append lo (zeros 8) (bits 8 b) (zeros 8) (length-bits 8 (n % 256) ∙ sym (length-bits 8 b))
    ∙ ap (λ (t : List Bool). t ++ zeros 8) (sum-comm lo (bits 8 b) ∙ sym (bits-xor 8 b (n % 256))) in
    let empty : sum_of (zeros 16) (x ++ zeros 8) ≡ x ++ zeros 8 = zeros-sum 16 (x ++ zeros 8) (length-octet (bit_xor a (n / 256))) in
    ap (λ (t : List Bool). register_after octets (shifts 8 (sum_of t (bits 8 b ++ zeros 8)))) (upper_and_lower n a)
    ∙ ap (λ (t : List Bool). register_after octets (shifts 8 t)) (sum-assoc (shifts 8 (x ++ zeros 8)) (lo ++ zeros 8) (bits 8 b ++ zeros 8) ∙ ap (sum_of (shifts 8 (x ++ zeros 8))) second)
    ∙ ap (λ (t : List Bool). register_after octets (shifts 8 (sum_of (shifts 8 t) (y ++ zeros 8)))) (sym empty)

shifts-none : (n : ℕ) → shifts n (zeros 16) ≡ zeros 16
unfolding shifts
shifts-none zero = refl
shifts-none (suc n) = shifts-none n

-- the register after two octets and more
pub fed_two : (n a b : ℕ) (octets : List ℕ) → register_after (a ∷ b ∷ octets) (bits 16 n) ≡ contribution (bit_xor a (n / 256) ∷ bit_xor b (n % 256) ∷ octets)
fed_two n a b octets =
    let all = bit_xor a (n / 256) ∷ bit_xor b (n % 256) ∷ octets in
    halves n a b octets ∙ fed-sum all (zeros 16) (length-zeros 16)
    ∙ ap (λ (t : List Bool). sum_of t (contribution all)) (shifts-none (8 * length all))
    ∙ zeros-sum 16 (contribution all) (length-contribution all)

-- ---- eight octets

xor_all : ℕ → List ℕ → ℕ
xor_all v [] = v
xor_all v (w ∷ ws) = xor_all (bit_xor v w) ws

sum_all : List ℕ → List Bool
sum_all [] = zeros 16
sum_all (w ∷ ws) = sum_of (bits 16 w) (sum_all ws)

bits-xor_all : (v : ℕ) (ws : List ℕ) → bits 16 (xor_all v ws) ≡ sum_of (bits 16 v) (sum_all ws)
unfolding xor_all sum_all
bits-xor_all v [] = sym (sum-comm (bits 16 v) (zeros 16) ∙ zeros-sum 16 (bits 16 v) (length-bits 16 v))
bits-xor_all v (w ∷ ws) =
    bits-xor_all (bit_xor v w) ws
    ∙ ap (λ (t : List Bool). sum_of t (sum_all ws)) (bits-xor 16 v w)
    ∙ sum-assoc (bits 16 v) (bits 16 w) (sum_all ws)

-- the sum of three, the last first
swapped : (p q s : List Bool) → sum_of p (sum_of q s) ≡ sum_of q (sum_of p s)
swapped p q s = sym (sum-assoc p q s) ∙ ap (λ (t : List Bool). sum_of t s) (sum-comm p q) ∙ sum-assoc q p s

sum_all-snoc : (ws : List ℕ) (w : ℕ) → sum_all (ws ++ w ∷ []) ≡ sum_of (bits 16 w) (sum_all ws)
unfolding sum_all
sum_all-snoc [] w = refl
sum_all-snoc (v ∷ ws) w = ap (sum_of (bits 16 v)) (sum_all-snoc ws w) ∙ swapped (bits 16 v) (bits 16 w) (sum_all ws)

-- the sum of a list, the last first
sum_last_first : (ws : List ℕ) (w : ℕ) (q : List Bool) → sum_all ws ≡ q → sum_all (ws ++ w ∷ []) ≡ sum_of (bits 16 w) q
sum_last_first ws w q e = sum_all-snoc ws w ∙ ap (sum_of (bits 16 w)) e

eight : (os : List ℕ) → length os ≡ 8 → os ≡ get_or os 0 0 ∷ get_or os 1 0 ∷ get_or os 2 0 ∷ get_or os 3 0 ∷ get_or os 4 0 ∷ get_or os 5 0 ∷ get_or os 6 0 ∷ get_or os 7 0 ∷ []
eight (a ∷ b ∷ c ∷ d ∷ e ∷ f ∷ g ∷ h ∷ []) is = refl
eight (a ∷ b ∷ c ∷ d ∷ e ∷ f ∷ g ∷ h ∷ i ∷ os) is = absurd (omega (arith, is))
eight (a ∷ b ∷ c ∷ d ∷ e ∷ f ∷ g ∷ []) is = absurd (omega (arith, is))
eight (a ∷ b ∷ c ∷ d ∷ e ∷ f ∷ []) is = absurd (omega (arith, is))
eight (a ∷ b ∷ c ∷ d ∷ e ∷ []) is = absurd (omega (arith, is))
eight (a ∷ b ∷ c ∷ d ∷ []) is = absurd (omega (arith, is))
eight (a ∷ b ∷ c ∷ []) is = absurd (omega (arith, is))
eight (a ∷ b ∷ []) is = absurd (omega (arith, is))
eight (a ∷ []) is = absurd (omega (arith, is))
eight [] is = absurd (omega (arith, is))

-- the remainder of an octet followed by the given number of octets of zeros
pub record IsRemainderOf (octet behind entry : ℕ) : Type 0 where
  pub is : bits 16 entry ≡ shifts (8 + 8 * behind) (bits 8 octet ++ zeros 8)

pub after_eight : (n : ℕ) (os : List ℕ) (r7 r6 r5 r4 r3 r2 r1 r0 : ℕ) → length os ≡ 8
    → IsRemainderOf (bit_xor (get_or os 0 0) (n / 256)) 7 r7
    → IsRemainderOf (bit_xor (get_or os 1 0) (n % 256)) 6 r6
    → IsRemainderOf (get_or os 2 0) 5 r5
    → IsRemainderOf (get_or os 3 0) 4 r4
    → IsRemainderOf (get_or os 4 0) 3 r3
    → IsRemainderOf (get_or os 5 0) 2 r2
    → IsRemainderOf (get_or os 6 0) 1 r1
    → IsRemainderOf (get_or os 7 0) 0 r0
    → register_after os (bits 16 n) ≡ bits 16 (bit_xor (bit_xor (bit_xor (bit_xor (bit_xor (bit_xor (bit_xor r0 r1) r2) r3) r4) r5) r6) r7)
unfolding contribution xor_all sum_all
after_eight n os r7 r6 r5 r4 r3 r2 r1 r0 len e7 e6 e5 e4 e3 e2 e1 e0 =
    let rest = get_or os 2 0 ∷ get_or os 3 0 ∷ get_or os 4 0 ∷ get_or os 5 0 ∷ get_or os 6 0 ∷ get_or os 7 0 ∷ [] in
    let sums : contribution (bit_xor (get_or os 0 0) (n / 256) ∷ bit_xor (get_or os 1 0) (n % 256) ∷ rest) ≡ sum_of (bits 16 r7) (sum_all (r6 ∷ r5 ∷ r4 ∷ r3 ∷ r2 ∷ r1 ∷ r0 ∷ [])) =
    λ i. sum_of (sym e7.is i) (sum_of (sym e6.is i) (sum_of (sym e5.is i) (sum_of (sym e4.is i) (sum_of (sym e3.is i) (sum_of (sym e2.is i) (sum_of (sym e1.is i) (sum_of (sym e0.is i) (zeros 16)))))))) in
    let last_first : sum_all (r0 ∷ r1 ∷ r2 ∷ r3 ∷ r4 ∷ r5 ∷ r6 ∷ r7 ∷ []) ≡ sum_of (bits 16 r7) (sum_all (r6 ∷ r5 ∷ r4 ∷ r3 ∷ r2 ∷ r1 ∷ r0 ∷ [])) =
    sum_last_first (r0 ∷ r1 ∷ r2 ∷ r3 ∷ r4 ∷ r5 ∷ r6 ∷ []) r7 _
    (sum_last_first (r0 ∷ r1 ∷ r2 ∷ r3 ∷ r4 ∷ r5 ∷ []) r6 _
    (sum_last_first (r0 ∷ r1 ∷ r2 ∷ r3 ∷ r4 ∷ []) r5 _
    (sum_last_first (r0 ∷ r1 ∷ r2 ∷ r3 ∷ []) r4 _
    (sum_last_first (r0 ∷ r1 ∷ r2 ∷ []) r3 _
    (sum_last_first (r0 ∷ r1 ∷ []) r2 _
    (sum_last_first (r0 ∷ []) r1 (sum_all (r0 ∷ [])) refl)))))) in
    ap (λ (t : List ℕ). register_after t (bits 16 n)) (eight os len)
    ∙ fed_two n (get_or os 0 0) (get_or os 1 0) rest
    ∙ sums
    ∙ sym last_first
    ∙ sym (bits-xor_all r0 (r1 ∷ r2 ∷ r3 ∷ r4 ∷ r5 ∷ r6 ∷ r7 ∷ []))

-- the register after one octet, by the remainder of the octet with the register's upper half added
pub after_one : (n a entry : ℕ) → IsRemainderOf (bit_xor a (n / 256)) 0 entry → register_after (a ∷ []) (bits 16 n) ≡ bits 16 (bit_xor (n * 256 % 65536) entry)
unfolding register_after
after_one n a entry e =
    let lower : bits 16 (n * 256 % 65536) ≡ bits 8 (n % 256) ++ zeros 8 = bits-octet n ∙ ap (λ (t : List Bool). t ++ zeros 8) (sym (bits-cut 8 8 n (omega arith))) in
    upper_and_lower n a ∙ sum-comm (shifts 8 (bits 8 (bit_xor a (n / 256)) ++ zeros 8)) (bits 8 (n % 256) ++ zeros 8)
    ∙ (λ i. sum_of (sym lower i) (sym e.is i)) ∙ sym (bits-xor 16 (n * 256 % 65536) entry)

-- ---- octets cut in two

octet_bits-append : (os ps : List ℕ) → octet_bits (os ++ ps) ≡ octet_bits os ++ octet_bits ps
octet_bits-append [] ps = refl
octet_bits-append (o ∷ os) ps = ap (λ (t : List Bool). bits 8 o ++ t) (octet_bits-append os ps) ∙ sym (append_assoc (bits 8 o) (octet_bits os) (octet_bits ps))

pub octets_cut : (n : ℕ) (os front back : List ℕ) → front ≡ take n os → back ≡ drop n os → octet_bits front ++ octet_bits back ≡ octet_bits os
octets_cut n os front back a b =
    sym (octet_bits-append front back) ∙ ap octet_bits ((λ i. a i ++ b i) ∙ take-append-drop n os)
