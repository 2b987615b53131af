use Rattle.std.proofs.Common.{arith}
use Rattle.std.proofs.lemmas.Grind.{common_steps}
use Rattle.bpf_values.proofs.arithmetic.byte_order_result.Goals as goal

pub returns-in-Big-byte_order-2 : goal.returns-in-Big-byte_order-2
returns-in-Big-byte_order-2 c = grind (arith, common_steps)
