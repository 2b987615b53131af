use Rattle.ocp_flight.proofs.ReadBack.{are_read_back}
use Rattle.ocp_flight.proofs.laws.entries_are_read_back.Goals as goal

pub returns : goal.returns
returns c = are_read_back
