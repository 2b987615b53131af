use Rattle.std.proofs.Common.{length, ap, arith}
use Rattle.ocp_flight.proofs.Insides.{count}
use Rattle.ocp_flight.proofs.tape.Tape.free_pieces.Goals as goal

pub returns : goal.returns
returns g c =
    omega (arith, count c.self.inside c.self.invariant, ap (λ t. length t.pieces) c.self.view_is, ap (λ t. t.most) c.self.view_is, c.self.invariant.few, c.capacity.ensures.capacity, c.len.ensures.len)
