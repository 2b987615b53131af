use Rattle.ocp_core.proofs.Keeping.{IsWorld-empty_log}
use Rattle.ocp_core.proofs.engine.Engine.new.Goals as goal

pub invariant_of-result : goal.invariant_of-result
invariant_of-result g c = IsWorld-empty_log _ _ _ _ _ _ c.in_ok-journal.ensures c.in_ok-state.ensures
