use Rattle.ocp_world.proofs.Lawful.{still_refused, still}
use Rattle.ocp_world.proofs.laws.only_running_procedures_step.Goals as goal

pub returns-clause-refused : goal.returns-clause-refused
returns-clause-refused c = still_refused c.only_running_procedures_step.ensures

pub returns-clause-world : goal.returns-clause-world
returns-clause-world c = still c.only_running_procedures_step.ensures
