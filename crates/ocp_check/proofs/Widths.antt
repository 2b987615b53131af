-- Numbers of a width.
use Rattle.std.proofs.Common.{ℕ, ◌<◌, arith}
use Rattle.bpf_types.specs.declared.line.Width.{Width}
use Rattle.bpf_types.specs.declared.line.Width.TheVariants.{W32, W64}
use Rattle.bpf_values.specs.Value.{modulus, negation}

pub negated : (width : Width) (a : ℕ) → negation width a < modulus width
negated W32 a = omega arith
negated W64 a = omega arith
