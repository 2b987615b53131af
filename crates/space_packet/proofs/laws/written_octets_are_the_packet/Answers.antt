use Rattle.space_packet.proofs.Packets.{written}
use Rattle.space_packet.proofs.laws.written_octets_are_the_packet.Goals as goal

pub returns : goal.returns
returns c = written
