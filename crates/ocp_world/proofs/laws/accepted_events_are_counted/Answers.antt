use Rattle.ocp_world.proofs.Lawful.{counted}
use Rattle.ocp_world.proofs.laws.accepted_events_are_counted.Goals as goal

pub returns : goal.returns
returns c = counted
