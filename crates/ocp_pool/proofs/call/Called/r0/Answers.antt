use Rattle.std.proofs.Common.{arith}
use Rattle.std.proofs.lemmas.Grind.{common_steps}
use Rattle.ocp_pool.proofs.call.Called.r0.Goals as goal

pub returns-in-PoolSet : goal.returns-in-PoolSet
returns-in-PoolSet c = grind (arith, common_steps)
