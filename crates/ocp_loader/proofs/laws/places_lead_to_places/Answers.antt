use Rattle.ocp_loader.proofs.Line.{continues}
use Rattle.ocp_loader.proofs.Stay.{stands}
use Rattle.ocp_loader.proofs.laws.places_lead_to_places.Goals as goal

pub returns-clause-lines : goal.returns-clause-lines
returns-clause-lines c = continues

pub returns-clause-slots : goal.returns-clause-slots
returns-clause-slots c = stands
