-- What is known of a register, of all registers, and of an access.
use Rattle.std.specs.Prelude.{◌≡◌, ◌≤◌, ◌<◌, ◌⊎◌, ℕ, ◌+◌, ◌%◌, ◌^◌, Bool, false, List, length, slice_index, slice_index_or, Option, Some, None}
use Rattle.bpf_types.specs.declared.line.Width.{Width}
use Rattle.bpf_types.specs.declared.line.Width.TheVariants.{W32, W64}
use Rattle.bpf_types.specs.declared.line.Comparison.{Comparison}
use Rattle.bpf_types.specs.declared.line.Comparison.TheVariants as comparison
use Rattle.ocp_check.specs.declared.range.Range.{Range}
use Rattle.ocp_check.specs.declared.range.Stride.{Stride}
use Rattle.ocp_check.specs.declared.range.Stride.TheVariants.{One, Two, Four, Eight}

-- the number is a multiple of the stride
abbrev pub IsMultiple : Stride → ℕ → Type 0
IsMultiple One v = Unit {0}
IsMultiple Two v = v % 2 ≡ 0
IsMultiple Four v = v % 4 ≡ 0
IsMultiple Eight v = v % 8 ≡ 0

-- the number is one of those that are known of; if nothing is known, any number is
abbrev pub IsIn : Option Range → ℕ → Type 0
IsIn None v = Unit {0}
IsIn (Some r) v = (r.low ≤ v) × (v ≤ r.high) × IsMultiple r.stride v

-- one number
abbrev pub just : ℕ → Option Range
just number = Some (record { low = number; high = number; stride = One })

-- from this number on a number of the width has a sign
abbrev pub half_of : Width → ℕ
half_of W32 = 2 ^ 31
half_of W64 = 2 ^ 63

-- the test of unsigned numbers that says the same of numbers without a sign
abbrev pub test_without_signs : Comparison → Comparison
test_without_signs comparison.SignedGreater = comparison.Greater
test_without_signs comparison.SignedGreaterOrEqual = comparison.GreaterOrEqual
test_without_signs comparison.SignedLess = comparison.Less
test_without_signs comparison.SignedLessOrEqual = comparison.LessOrEqual
test_without_signs c = c

-- each register holds what is known of it
pub record AreIn (known : List (Option Range)) (registers : List ℕ) : Type 0 where
  pub eleven : length registers ≡ 11
  pub each : (k : ℕ) → k < 11 → IsIn (slice_index_or known k None) (slice_index registers k)

-- n octets from an address on are in one region: the stack, the work region of the smaller profile,
-- or, to be read alone, the arguments
abbrev pub IsThere : Bool → ℕ → ℕ → Type 0
IsThere writes q n =
    ((0x1000_0000 ≤ q) × (q + n ≤ 0x1000_1000)) ⊎ ((0x3000_0000 ≤ q) × (q + n ≤ 0x3000_0400))
    ⊎ ((writes ≡ false) × (0x2000_0000 ≤ q) × (q + n ≤ 0x2000_0100))
