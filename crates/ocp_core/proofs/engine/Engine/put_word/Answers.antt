use Rattle.std.proofs.Common.{ap, ◌∙◌}
use Rattle.ocp_world.specs.World.{Put}
use Rattle.ocp_core.specs.Log.{answer_in, log_after}
use Rattle.ocp_core.proofs.engine.Engine.put_word.Goals as goal

pub returns-clause-answer : goal.returns-clause-answer
returns-clause-answer g c = c.put_word.ensures.answer ∙ ap (λ log. answer_in log (Put c.args.by c.args.index c.args.value)) c.self.view_is

pub returns-clause-journal : goal.returns-clause-journal
returns-clause-journal g c = c.put_word.ensures.store ∙ ap (λ log. log_after log (Put c.args.by c.args.index c.args.value)) c.self.view_is
