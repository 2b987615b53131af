use Rattle.ocp_core.proofs.Possible.{images_stay, own_events_are_possible}
use Rattle.ocp_core.proofs.Started.{starts_are_of_octets}
use Rattle.ocp_core.proofs.laws.procedures.own_events_are_those_of_the_image.Goals as goal

pub returns : goal.returns
returns c = record { image = images_stay; events = own_events_are_possible; octets = starts_are_of_octets }
