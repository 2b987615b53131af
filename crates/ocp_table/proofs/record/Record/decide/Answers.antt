use Rattle.std.proofs.Common.{arith}
use Rattle.std.proofs.lemmas.Grind.{common_steps}
use Rattle.ocp_table.proofs.record.Record.decide.Goals as goal

pub returns-in-Stop-clause-decision : goal.returns-in-Stop-clause-decision
returns-in-Stop-clause-decision g c = grind (arith, common_steps)
