use Rattle.pus_fields.proofs.Written.{telemetry_octets-is}
use Rattle.pus_fields.proofs.laws.telemetry_octets_are_its_packet.Goals as goal

pub returns : goal.returns
returns c = λ tm r h. telemetry_octets-is tm c.written_octets_are_the_packet.ensures r h
