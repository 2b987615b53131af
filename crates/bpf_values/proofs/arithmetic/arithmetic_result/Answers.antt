use Rattle.std.proofs.Common.{arith}
use Rattle.std.proofs.lemmas.Grind.{common_steps}
use Rattle.bpf_values.proofs.arithmetic.arithmetic_result.Goals as goal

pub returns-in-W32 : goal.returns-in-W32
returns-in-W32 c = grind (arith, common_steps)
