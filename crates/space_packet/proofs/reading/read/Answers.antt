use Rattle.std.proofs.Common.{arith}
use Rattle.std.proofs.lemmas.Grind.{common_steps}
use Rattle.space_packet.proofs.Packets.{one_reading}
use Rattle.space_packet.proofs.reading.read.Goals as goal

pub returns-clause-ok : goal.returns-clause-ok
returns-clause-ok c = grind (arith, common_steps)

pub returns-clause-only : goal.returns-clause-only
returns-clause-only c header payload packet = one_reading _ _ _ _ _ (returns-clause-ok c) packet
