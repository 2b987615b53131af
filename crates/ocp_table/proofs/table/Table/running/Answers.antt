use Rattle.std.proofs.Common.{arith}
use Rattle.ocp_table.proofs.Able.{able}
use Rattle.ocp_table.proofs.table.Table.running.Goals as goal

pub returns-then-is_running-clause-effect : goal.returns-then-is_running-clause-effect
returns-then-is_running-clause-effect g c = grind (arith, able)
