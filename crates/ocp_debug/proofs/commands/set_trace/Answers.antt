use Rattle.std.proofs.Common.{arith}
use Rattle.std.proofs.lemmas.Grind.{common_steps}
use Rattle.ocp_debug.proofs.commands.set_trace.Goals as goal

pub returns-clause-table : goal.returns-clause-table
returns-clause-table g c = grind (arith, common_steps)
