use Rattle.ocp_seats.proofs.Walks.{zeros_read}
use Rattle.ocp_seats.proofs.close.first_places.Goals as goal

pub returns : goal.returns
returns c = zeros_read 65
