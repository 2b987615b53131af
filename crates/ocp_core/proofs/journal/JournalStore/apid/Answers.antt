use Rattle.std.proofs.Common.{sym, ◌∙◌}
use Rattle.ocp_core.proofs.Journaling.{world_of-apid}
use Rattle.ocp_core.proofs.journal.JournalStore.apid.Goals as goal

pub returns-clause-value : goal.returns-clause-value
returns-clause-value g c = c.apid.ensures.value ∙ sym (world_of-apid c.args.self.now)
