use Rattle.pus_fields.proofs.RoundTrips.{tm_one_packet}
use Rattle.pus_fields.proofs.laws.one_packet_for_telemetry.Goals as goal

pub returns : goal.returns
returns c = λ octets tm all h. tm_one_packet octets tm c.written_octets_are_the_packet.ensures c.one_packet_for_a_header.ensures all h
