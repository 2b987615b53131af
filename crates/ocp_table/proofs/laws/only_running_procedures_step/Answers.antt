use Rattle.std.specs.FinMap.{get}
use Rattle.ocp_table.specs.Deciding.{is_full}
use Rattle.ocp_table.proofs.Lawful.{still_fails}
use Rattle.ocp_table.proofs.laws.only_running_procedures_step.Goals as goal

pub returns : goal.returns
returns c id m pool still = still_fails id (get m id) (is_full m) pool still
