use Rattle.std.proofs.Common.{sym, ap, ◌∙◌}
use Rattle.ocp_reports.specs.Packets.{together}
use Rattle.ocp_reports.proofs.Pieces.{together-pieces}
use Rattle.ocp_reports.proofs.buffer.PacketBuffer.octets.Goals as goal

pub returns : goal.returns
returns g c = c.as_slice.ensures.value ∙ sym (together-pieces c.self.inside.octets.items c.self.inside.lengths.items c.self.invariant.0.whole) ∙ ap together c.self.view_is
