use Rattle.std.proofs.Common.{ap, ◌∙◌}
use Rattle.ocp_world.specs.World.{Step}
use Rattle.ocp_flight.specs.Calls.{answer_in, flown_after}
use Rattle.ocp_flight.proofs.flight.Flight.step.Goals as goal

pub returns-clause-answer : goal.returns-clause-answer
returns-clause-answer g c = c.step.ensures.answer ∙ ap (λ f. answer_in f (Step c.args.by c.args.id)) c.self.view_is

pub returns-clause-log : goal.returns-clause-log
returns-clause-log g c = c.step.ensures.store ∙ ap (λ f. flown_after f (Step c.args.by c.args.id)) c.self.view_is
