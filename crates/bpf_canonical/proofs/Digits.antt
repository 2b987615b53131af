-- The hexadecimal digits of a number are those of its octets.
use Rattle.std.proofs.Common.{◌≡◌, ℕ, Bool, true, false, ◌&&◌, zero, suc, ◌*◌, ◌/◌, ◌%◌, ◌^◌, ◌<◌, List, [], ◌∷◌, ◌++◌, refl, sym, ap, ◌∙◌, arith}
use Rattle.std.specs.Prelude.{slice_index, ◌==◌}
use Rattle.std.proofs.lemmas.Bool.Decides.{Decides-below_and, Decides-eqb}
use Rattle.std.specs.Fmt.{digit_glyph}
use Rattle.std.specs.Int.{w64, byte_at, bytes_high_first, to_be_bytes}
use Rattle.std.proofs.Math.Nat.{div-div-eq-div-mul, pow-suc, pow-succ'}
use Rattle.hex.specs.Hex.{lower_digits, encode_with, encode_lower}
use Rattle.bpf_canonical.specs.Canonical.{hex_digits}

-- each of the sixteen
has_glyph : ℕ → Bool
has_glyph d = slice_index lower_digits d == digit_glyph false d

all_below : ℕ → Bool
all_below zero = true
all_below (suc d) = has_glyph d && all_below d

all_glyphs : all_below 16 ≡ true
unfolding all_below has_glyph
all_glyphs = refl

glyph : (d : ℕ) → d < 16 → slice_index lower_digits d ≡ digit_glyph false d
unfolding all_below has_glyph
glyph d lt =
    let each = Decides-below_and has_glyph (λ k. has_glyph k ≡ true) all_below (λ k. (λ e. e, λ e. e)) refl (λ _. refl) 16 in
    (Decides-eqb (slice_index lower_digits d) (digit_glyph false d)).0 (each.0 all_glyphs d lt)

sixteen : (k : ℕ) → 16 * 16 ^ k ≡ 16 ^ suc k
sixteen k = sym (pow-succ' 16 k)

-- the first digit of one more
first_digit : (count n : ℕ) → hex_digits (suc count) n ≡ digit_glyph false (n / 16 ^ count % 16) ∷ hex_digits count n
first_digit zero n = ap (λ (k : ℕ). digit_glyph false (k % 16) ∷ []) {x = n} {y = n / 16 ^ 0} (omega arith)
first_digit (suc count) n =
    ap (λ (ds : List ℕ). ds ++ digit_glyph false (n % 16) ∷ []) (first_digit count (n / 16))
    ∙ ap (λ (k : ℕ). digit_glyph false (k % 16) ∷ hex_digits (suc count) n) (div-div-eq-div-mul n 16 (16 ^ count) ∙ ap (λ (p : ℕ). n / p) (sixteen count))

abbrev twice : ℕ → ℕ
twice zero = zero
twice (suc k) = suc (suc (twice k))

power : (k : ℕ) → 256 ^ k ≡ 16 ^ twice k
power zero = refl
power (suc k) = pow-suc 256 k ∙ by (256 ^ k) (16 ^ twice k) (power k) ∙ ap (λ (p : ℕ). 16 * p) (sixteen (twice k)) ∙ sixteen (suc (twice k))
  where
    by : (p q : ℕ) → p ≡ q → p * 256 ≡ 16 * (16 * q)
    by p q e = omega (arith, e)

octet : (k n : ℕ) → byte_at k n ≡ n / 16 ^ twice k % 256
octet zero n = ap (λ (m : ℕ). m % 256) {x = n} {y = n / 16 ^ 0} (omega arith)
octet (suc k) n = ap (λ (p : ℕ). n / p % 256) (power (suc k))

high_half : (k n : ℕ) → byte_at k n / 16 ≡ n / 16 ^ suc (twice k) % 16
high_half k n =
    ap (λ (m : ℕ). m / 16) (octet k n) ∙ parts (n / 16 ^ twice k)
    ∙ ap (λ (m : ℕ). m % 16) (div-div-eq-div-mul n (16 ^ twice k) 16 ∙ ap (λ (p : ℕ). n / p) (sym (pow-suc 16 (twice k))))
  where
    parts : (m : ℕ) → m % 256 / 16 ≡ m / 16 % 16
    parts m = omega arith

low_half : (k n : ℕ) → byte_at k n % 16 ≡ n / 16 ^ twice k % 16
low_half k n = ap (λ (m : ℕ). m % 16) (octet k n) ∙ parts (n / 16 ^ twice k)
  where
    parts : (m : ℕ) → m % 256 % 16 ≡ m % 16
    parts m = omega arith

encoded_by : (k n : ℕ) → encode_lower (bytes_high_first k n) ≡ hex_digits (twice k) n
unfolding encode_with
encoded_by zero n = refl
encoded_by (suc k) n =
    ap (λ (d : ℕ). d ∷ slice_index lower_digits (byte_at k n % 16) ∷ encode_lower (bytes_high_first k n)) (ap (slice_index lower_digits) (high_half k n) ∙ glyph (n / 16 ^ suc (twice k) % 16) (omega arith))
    ∙ ap (λ (d : ℕ). digit_glyph false (n / 16 ^ suc (twice k) % 16) ∷ d ∷ encode_lower (bytes_high_first k n)) (ap (slice_index lower_digits) (low_half k n) ∙ glyph (n / 16 ^ twice k % 16) (omega arith))
    ∙ ap (λ (ds : List ℕ). digit_glyph false (n / 16 ^ suc (twice k) % 16) ∷ digit_glyph false (n / 16 ^ twice k % 16) ∷ ds) (encoded_by k n)
    ∙ sym (first_digit (suc (twice k)) n ∙ ap (λ (ds : List ℕ). digit_glyph false (n / 16 ^ suc (twice k) % 16) ∷ ds) (first_digit (twice k) n))

-- written
pub encoded : (n : ℕ) → encode_lower (to_be_bytes w64 n) ≡ hex_digits 16 n
encoded n = encoded_by 8 n
