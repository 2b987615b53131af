use Rattle.ocp_table.proofs.Slicing.{local_events}
use Rattle.ocp_table.proofs.laws.local_instructions_are_events.Goals as goal

pub returns : goal.returns
returns c s = local_events s.records s.outbox s.pool
