use Rattle.pus_fields.proofs.RoundTrips.{tc_one_packet}
use Rattle.pus_fields.proofs.laws.one_packet_for_a_telecommand.Goals as goal

pub returns : goal.returns
returns c = λ octets tc all h. tc_one_packet octets tc c.written_octets_are_the_packet.ensures c.one_packet_for_a_header.ensures all h
