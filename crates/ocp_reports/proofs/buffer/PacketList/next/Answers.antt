use Rattle.ocp_reports.proofs.Pieces.{rest_are}
use Rattle.ocp_reports.proofs.buffer.PacketList.next.Goals as goal

pub invariant_of-self : goal.invariant_of-self
invariant_of-self c = rest_are c.self.inside.octets.now c.self.inside.lengths.now c.split_at.result.1.now c.in_ok-length.lengths.now c.in_ok-length.length.now c.from.result c.self.invariant c.in_ok-length.ensures.cases.0 c.from.ensures c.split_at.ensures.back
