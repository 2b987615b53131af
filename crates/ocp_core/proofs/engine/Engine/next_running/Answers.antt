use Rattle.std.proofs.Common.{rules}
use Rattle.ocp_core.proofs.engine.Engine.next_running.Goals as goal

pub returns-clause-pick : goal.returns-clause-pick
returns-clause-pick g c = search rules
