use Rattle.ocp_table.proofs.Lawful.{others_stay}
use Rattle.ocp_table.proofs.laws.a_directive_changes_its_own_procedure.Goals as goal

pub returns : goal.returns
returns c = others_stay
