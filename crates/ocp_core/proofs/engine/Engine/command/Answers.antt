use Rattle.std.proofs.Common.{ap, ◌∙◌}
use Rattle.ocp_world.specs.World.{Debug}
use Rattle.ocp_core.specs.Log.{answer_in, log_after}
use Rattle.ocp_core.proofs.engine.Engine.command.Goals as goal

pub returns-clause-answer : goal.returns-clause-answer
returns-clause-answer g c = c.command.ensures.answer ∙ ap (λ log. answer_in log (Debug c.args.by c.args.id c.args.command)) c.self.view_is

pub returns-clause-journal : goal.returns-clause-journal
returns-clause-journal g c = c.command.ensures.store ∙ ap (λ log. log_after log (Debug c.args.by c.args.id c.args.command)) c.self.view_is
