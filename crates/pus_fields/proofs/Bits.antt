-- The bits of numbers.
use Rattle.std.proofs.Common.{◌≡◌, ℕ, zero, suc, ◌+◌, ◌*◌, ◌/◌, ◌%◌, ◌^◌, ◌<◌, ◌≤◌, eqb, ◌++◌, length, ◌-◌, pow_pos, refl, sym, ap, subst, ◌∙◌, inl, inr, arith}
use Rattle.std.specs.Int.{bit_at}
use Rattle.std.specs.Prelude.{bit_xor}
use Rattle.std.proofs.lemmas.Nat.Bits.{bit_at_xor, bit_at-lt, same_from_bits_below, bit_at_cat_low, bit_at_cat_high, bit_at-zero}
use Rattle.std.proofs.lemmas.Bool.{cases_lt}
use Rattle.pus_fields.specs.ErrorControl.{plus, sum_of, zeros, bits}

pub length-bits : (w n : ℕ) → length (bits w n) ≡ w
length-bits zero n = refl
length-bits (suc w) n = ap suc (length-bits w n)

test_sum : (x y : ℕ) → x < 2 → y < 2 → eqb ((x + y) % 2) 1 ≡ plus (eqb x 1) (eqb y 1)
test_sum zero zero p q = refl
test_sum zero (suc zero) p q = refl
test_sum zero (suc (suc y)) p q = absurd (omega (arith, q))
test_sum (suc zero) zero p q = refl
test_sum (suc zero) (suc zero) p q = refl
test_sum (suc zero) (suc (suc y)) p q = absurd (omega (arith, q))
test_sum (suc (suc x)) y p q = absurd (omega (arith, p))

pub bits-xor : (w a b : ℕ) → bits w (bit_xor a b) ≡ sum_of (bits w a) (bits w b)
bits-xor zero a b = refl
bits-xor (suc w) a b =
    let head : eqb (bit_at (bit_xor a b) w) 1 ≡ plus (eqb (bit_at a w) 1) (eqb (bit_at b w) 1) = ap (λ (t : ℕ). eqb t 1) (bit_at_xor a b w) ∙ test_sum (bit_at a w) (bit_at b w) (bit_at-lt a w) (bit_at-lt b w) in
    rw (head, bits-xor w a b) refl

pub bits-cut : (w k n : ℕ) → w ≤ k → bits w (n % 2 ^ k) ≡ bits w n
bits-cut zero k n le = refl
bits-cut (suc w) k n le =
    let whole : n / 2 ^ k * 2 ^ k + n % 2 ^ k ≡ n = grind arith in
    let same : bit_at (n % 2 ^ k) w ≡ bit_at n w = sym (bit_at_cat_low (n / 2 ^ k) k (n % 2 ^ k) w (omega (arith, le))) ∙ ap (λ (t : ℕ). bit_at t w) whole in
    rw (same, bits-cut w k n (omega (arith, le))) refl

low_bits : (k n j : ℕ) → j ≤ k → bits j (n * 2 ^ k) ≡ zeros j
low_bits k n zero le = refl
low_bits k n (suc j) le =
    let whole : n * 2 ^ k + 0 ≡ n * 2 ^ k = omega arith in
    let none : bit_at (n * 2 ^ k) j ≡ 0 = sym (ap (λ (t : ℕ). bit_at t j) whole) ∙ bit_at_cat_low n k 0 j (omega (arith, le)) ∙ bit_at-zero j in
    rw (none, low_bits k n j (omega (arith, le))) refl

-- the bits of a number that is shifted
pub bits-shifted : (w k n m : ℕ) → m ≡ w + k → bits m (n * 2 ^ k) ≡ bits w n ++ zeros k
bits-shifted zero k n m e =
    let same : m ≡ k = omega (arith, e) in
    ap (λ (t : ℕ). bits t (n * 2 ^ k)) same ∙ low_bits k n k (omega arith)
bits-shifted (suc w) k n zero e = absurd (omega (arith, e))
bits-shifted (suc w) k n (suc m) e =
    let whole : n * 2 ^ k + 0 ≡ n * 2 ^ k = omega arith in
    let place : m - k ≡ w = omega (arith, e) in
    let same : bit_at (n * 2 ^ k) m ≡ bit_at n w = sym (ap (λ (t : ℕ). bit_at t m) whole) ∙ bit_at_cat_high n k 0 m (pow_pos k) (omega (arith, e)) ∙ ap (bit_at n) place in
    rw (same, bits-shifted w k n m (omega (arith, e))) refl

pub bits-octet : (n : ℕ) → bits 16 (n * 256 % 65536) ≡ bits 8 n ++ zeros 8
bits-octet n = bits-cut 16 16 (n * 256) (omega arith) ∙ bits-shifted 8 8 n 16 refl

same_test : (x y : ℕ) → x < 2 → y < 2 → eqb x 1 ≡ eqb y 1 → x ≡ y
same_test zero zero p q e = refl
same_test zero (suc zero) p q e = absurd cc
same_test zero (suc (suc y)) p q e = absurd (omega (arith, q))
same_test (suc zero) zero p q e = absurd cc
same_test (suc zero) (suc zero) p q e = refl
same_test (suc zero) (suc (suc y)) p q e = absurd (omega (arith, q))
same_test (suc (suc x)) y p q e = absurd (omega (arith, p))

same_bits : (n a b : ℕ) → bits n a ≡ bits n b → (i : ℕ) → i < n → bit_at a i ≡ bit_at b i
same_bits zero a b e i lt = absurd (omega (arith, lt))
same_bits (suc n) a b e i lt =
    let first : eqb (bit_at a n) 1 ≡ eqb (bit_at b n) 1 = cc in
    let others : bits n a ≡ bits n b = cc in
    elim (cases_lt i n) [
      | inl below ↦ same_bits n a b others i below
      | inr above ↦
          let here : n ≡ i = omega (arith, lt, above) in
          subst (λ (t : ℕ). bit_at a t ≡ bit_at b t) here (same_test _ _ (bit_at-lt a n) (bit_at-lt b n) first)
    ]

-- a number below 2 ^ w is known by its bits
pub one_number : (w a b : ℕ) → a < 2 ^ w → b < 2 ^ w → bits w a ≡ bits w b → a ≡ b
one_number w a b p q e = same_from_bits_below w a b p q (same_bits w a b e)
