use Rattle.ocp_slices.proofs.Instructing.{instructed}
use Rattle.ocp_slices.proofs.laws.workers_do_instructions_of_running_procedures.Goals as goal

pub returns : goal.returns
returns c = instructed c.refused_events_change_nothing.ensures c.only_running_procedures_step.ensures.refused
