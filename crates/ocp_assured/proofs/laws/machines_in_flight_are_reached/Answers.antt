use Rattle.std.proofs.Common.{sym, ap, subst, ◌∙◌}
use Rattle.std.specs.FinMap.{get}
use Rattle.bpf_step.specs.Reach.{Reaches}
use Rattle.ocp_world.specs.Replay.{replay}
use Rattle.ocp_core.specs.Own.{own_events, image_after}
use Rattle.ocp_core.specs.Possible.{image_of}
use Rattle.ocp_assured.proofs.Flying.{flies_after}
use Rattle.ocp_assured.proofs.Faults.{machine_is}
use Rattle.ocp_assured.proofs.laws.machines_in_flight_are_reached.Goals as goal

pub returns : goal.returns
returns c = λ profile apid words es id r has is.
    let laws = c.own_events_are_those_of_the_image.ensures in
    let loaded = sym (laws.image profile apid words es id) ∙ ap image_of is in
    let whole = flies_after c.machines_started_anew_are_as_new.ensures.new c.machines_started_anew_are_as_new.ensures.again c.machines_keep_their_addresses.ensures.stepped c.machines_keep_their_addresses.ensures.answered
    profile r.image laws.events laws.octets apid words es id has loaded in
    let same = machine_is profile (get (replay profile apid words es).records id) r (image_after profile apid words es id) (own_events profile apid words es id) is (laws.image profile apid words es id) (c.machines_follow_from_their_own_events.ensures profile apid words es id) in
    subst (λ s. Reaches r.image s) (sym same) whole.reached
