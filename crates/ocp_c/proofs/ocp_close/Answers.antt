use Rattle.ocp_c.proofs.Held.{answers_held}
use Rattle.ocp_c.proofs.ocp_close.Goals as goal

pub returns-in-Some-clause-closed : goal.returns-in-Some-clause-closed
returns-in-Some-clause-closed c = c.take.ensures.left

pub returns-in-Some-clause-status : goal.returns-in-Some-clause-status
returns-in-Some-clause-status c = answers_held _ c.in-Some.ensures.taken c.number.ensures
