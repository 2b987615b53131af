-- Multiples of a stride.
use Rattle.std.proofs.Common.{ℕ, ◌+◌, ◌%◌, ◌^◌, arith}
use Rattle.ocp_check.specs.declared.range.Stride.{Stride}
use Rattle.ocp_check.specs.declared.range.Stride.TheVariants.{One, Two, Four, Eight}
use Rattle.ocp_check.specs.Mirror.Ranges.{IsMultiple}

pub multiple_sum : (s : Stride) (x y : ℕ) → IsMultiple s x → IsMultiple s y → IsMultiple s ((x + y) % 2 ^ 64)
multiple_sum One x y h g = tt
multiple_sum Two x y h g = omega (arith, h, g)
multiple_sum Four x y h g = omega (arith, h, g)
multiple_sum Eight x y h g = omega (arith, h, g)
