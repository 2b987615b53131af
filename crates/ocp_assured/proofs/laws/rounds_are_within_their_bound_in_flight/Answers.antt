use Rattle.ocp_assured.proofs.Flying.{within}
use Rattle.ocp_assured.proofs.laws.rounds_are_within_their_bound_in_flight.Goals as goal

pub returns : goal.returns
returns c = λ image most is profile apid words es id has loaded.
    within c.machines_started_anew_are_as_new.ensures.new c.machines_started_anew_are_as_new.ensures.again c.machines_keep_their_addresses.ensures.stepped c.machines_keep_their_addresses.ensures.answered
    profile image c.own_events_are_those_of_the_image.ensures.events c.own_events_are_those_of_the_image.ensures.octets apid words es id has loaded most is
