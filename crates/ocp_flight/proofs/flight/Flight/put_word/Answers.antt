use Rattle.std.proofs.Common.{ap, ◌∙◌}
use Rattle.ocp_world.specs.World.{Put}
use Rattle.ocp_flight.specs.Calls.{answer_in, flown_after}
use Rattle.ocp_flight.proofs.flight.Flight.put_word.Goals as goal

pub returns-clause-answer : goal.returns-clause-answer
returns-clause-answer g c = c.put_word.ensures.answer ∙ ap (λ f. answer_in f (Put c.args.by c.args.index c.args.value)) c.self.view_is

pub returns-clause-log : goal.returns-clause-log
returns-clause-log g c = c.put_word.ensures.store ∙ ap (λ f. flown_after f (Put c.args.by c.args.index c.args.value)) c.self.view_is
