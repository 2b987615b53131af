use Rattle.std.proofs.Common.{length, sym, ap, ◌∙◌}
use Rattle.ocp_reports.proofs.Pieces.{length-pieces}
use Rattle.ocp_reports.proofs.buffer.PacketBuffer.len.Goals as goal

pub returns : goal.returns
returns g c = c.len.ensures ∙ c.self.inside.lengths.ok.0 ∙ sym (length-pieces c.self.inside.octets.items c.self.inside.lengths.items) ∙ ap length c.self.view_is
