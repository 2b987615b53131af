-- Which numbers are tied to one another.
use Rattle.std.specs.Prelude.{◌≡◌, ◌<◌, ℕ, ◌+◌, ◌*◌, ◌%◌, ◌^◌, List, slice_index, slice_index_or, Option, Some, None}
use Rattle.ocp_check.specs.declared.form.Form.{Form}

abbrev pub no_shift : Form
no_shift = record { base = 0; times = 0; plus = 0 }

-- modulo 2 ^ 64 the number is `times` times the number of its base, and `plus` more
abbrev pub IsForm : Option Form → (ℕ → ℕ) → ℕ → Type 0
IsForm None bases v = Unit {0}
IsForm (Some f) bases v = v % 2 ^ 64 ≡ (f.times * bases f.base + f.plus) % 2 ^ 64

-- the number that a shift gives a base, and the numbers that they give all of them
abbrev pub number_by : Form → (ℕ → ℕ) → ℕ
number_by shift bases = shift.times * bases shift.base + shift.plus

abbrev pub bases_after : List Form → (ℕ → ℕ) → ℕ → ℕ
bases_after shifts bases base = number_by (slice_index_or shifts base no_shift) bases

-- each register is of its form
pub record AreFormed (forms : List (Option Form)) (bases : ℕ → ℕ) (values : List ℕ) : Type 0 where
  pub each : (k : ℕ) → k < 11 → IsForm (slice_index_or forms k None) bases (slice_index values k)
