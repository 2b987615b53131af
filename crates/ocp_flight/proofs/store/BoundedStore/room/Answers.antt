use Rattle.std.proofs.Common.{◌≡◌, ◌-◌, ap, ◌∙◌, arith}
use Rattle.ocp_flight.specs.Flown.{held_count, held_octets, room}
use Rattle.ocp_flight.specs.Mirror.Kept.{flown_of}
use Rattle.ocp_flight.proofs.Storing.{count_held, extent_held}
use Rattle.ocp_flight.proofs.store.BoundedStore.room.Goals as goal

pub returns : goal.returns
returns g c =
    let s = c.self.inside in
    let entries : c.free_pieces.result ≡ s.tape.most - held_count (flown_of s) = omega (arith, c.free_pieces.ensures, count_held s c.self.invariant) in
    let octets : c.free_octets.result ≡ s.tape.room - held_octets (flown_of s) = omega (arith, c.free_octets.ensures, extent_held s c.self.invariant) in
    (λ i. record { entries = entries i; octets = octets i }) ∙ ap room c.self.view_is
