use Rattle.ocp_flight.proofs.Storing.{same_entries}
use Rattle.ocp_flight.proofs.laws.the_same_entries_make_the_same_world.Goals as goal

pub returns : goal.returns
returns c = same_entries
