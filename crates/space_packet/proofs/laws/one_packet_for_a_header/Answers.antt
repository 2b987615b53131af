use Rattle.space_packet.proofs.Packets.{one_writing}
use Rattle.space_packet.proofs.laws.one_packet_for_a_header.Goals as goal

pub returns : goal.returns
returns c = one_writing
