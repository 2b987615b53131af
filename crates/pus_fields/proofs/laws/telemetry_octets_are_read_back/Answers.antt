use Rattle.pus_fields.proofs.RoundTrips.{tm_read_back}
use Rattle.pus_fields.proofs.laws.telemetry_octets_are_read_back.Goals as goal

pub returns : goal.returns
returns c = λ tm r h. tm_read_back tm c.written_octets_are_the_packet.ensures r h
