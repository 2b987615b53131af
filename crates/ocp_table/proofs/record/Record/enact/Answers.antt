use Rattle.std.proofs.Common.{arith}
use Rattle.std.proofs.lemmas.Grind.{common_steps}
use Rattle.ocp_table.proofs.record.Record.enact.Goals as goal

pub returns-in-Pended-clause-record : goal.returns-in-Pended-clause-record
returns-in-Pended-clause-record g c = grind (arith, common_steps)
