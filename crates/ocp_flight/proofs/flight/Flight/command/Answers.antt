use Rattle.std.proofs.Common.{ap, ◌∙◌}
use Rattle.ocp_world.specs.World.{Debug}
use Rattle.ocp_flight.specs.Calls.{answer_in, flown_after}
use Rattle.ocp_flight.proofs.flight.Flight.command.Goals as goal

pub returns-clause-answer : goal.returns-clause-answer
returns-clause-answer g c = c.command.ensures.answer ∙ ap (λ f. answer_in f (Debug c.args.by c.args.id c.args.command)) c.self.view_is

pub returns-clause-log : goal.returns-clause-log
returns-clause-log g c = c.command.ensures.store ∙ ap (λ f. flown_after f (Debug c.args.by c.args.id c.args.command)) c.self.view_is
