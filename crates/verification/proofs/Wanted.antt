-- Acknowledgement flags, as masks and as quotients.
use Rattle.std.proofs.Common.{◌≡◌, ◌<◌, ℕ, ◌*◌, ◌/◌, ◌%◌, eqb, ap, ◌∙◌, arith}
use Rattle.std.proofs.lemmas.Bool.Decides.{nat_tests}
use Rattle.std.proofs.lemmas.Nat.Bits.{and_pow}
use Rattle.std.specs.Prelude.{bit_and}

doubled : (r : ℕ) → r < 2 → eqb (r * 2) 2 ≡ eqb r 1
doubled r h = grind (arith, nat_tests)

octupled : (r : ℕ) → r < 2 → eqb (r * 8) 8 ≡ eqb r 1
octupled r h = grind (arith, nat_tests)

pub mask_one : (n : ℕ) → eqb (bit_and n 1) 1 ≡ eqb (n % 2) 1
mask_one n = grind (arith, nat_tests, and_pow n 0)

pub mask_two : (n : ℕ) → eqb (bit_and n 2) 2 ≡ eqb (n / 2 % 2) 1
mask_two n = let small : n / 2 % 2 < 2 = omega arith in ap (λ m. eqb m 2) (and_pow n 1) ∙ doubled (n / 2 % 2) small

pub mask_eight : (n : ℕ) → eqb (bit_and n 8) 8 ≡ eqb (n / 8 % 2) 1
mask_eight n = let small : n / 8 % 2 < 2 = omega arith in ap (λ m. eqb m 8) (and_pow n 3) ∙ octupled (n / 8 % 2) small
