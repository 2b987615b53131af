use Rattle.pus_fields.proofs.Written.{telecommand_octets-is}
use Rattle.pus_fields.proofs.laws.telecommand_octets_are_its_packet.Goals as goal

pub returns : goal.returns
returns c = λ tc r h. telecommand_octets-is tc c.written_octets_are_the_packet.ensures r h
