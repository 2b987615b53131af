use Rattle.std.proofs.Common.{ap, arith}
use Rattle.ocp_flight.specs.Pieces.{extent}
use Rattle.ocp_flight.proofs.Insides.{size}
use Rattle.ocp_flight.proofs.tape.Tape.free_octets.Goals as goal

pub returns : goal.returns
returns g c =
    omega (arith, size c.self.inside c.self.invariant, ap (λ t. extent t.pieces) c.self.view_is, ap (λ t. t.room) c.self.view_is, c.self.invariant.within, c.capacity.ensures.capacity, c.len.ensures.len)
