use Rattle.ocp_world.proofs.Lawful.{machines_stay}
use Rattle.ocp_world.proofs.laws.only_starts_and_own_instructions_change_machines.Goals as goal

pub returns : goal.returns
returns c = machines_stay c.debugging_keeps_runs.ensures c.a_directive_changes_its_own_procedure.ensures c.other_requests_keep_machines.ensures c.only_running_procedures_step.ensures
