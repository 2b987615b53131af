use Rattle.pus_fields.proofs.RoundTrips.{tc_read_back}
use Rattle.pus_fields.proofs.laws.telecommand_octets_are_read_back.Goals as goal

pub returns : goal.returns
returns c = λ tc r h. tc_read_back tc c.written_octets_are_the_packet.ensures r h
