use Rattle.std.proofs.Common.{arith}
use Rattle.std.proofs.lemmas.Grind.{common_steps}
use Rattle.bpf_values.proofs.arithmetic.sign_extension.Goals as goal

pub returns-in-From16To64 : goal.returns-in-From16To64
returns-in-From16To64 c = grind (arith, common_steps)
