use Rattle.std.proofs.Common.{refl, ap, ◌∙◌}
use Rattle.ocp_flight.specs.Calls.{round_in, round_after}
use Rattle.ocp_flight.proofs.flight.Flight.round.Goals as goal

pub returns-clause-round : goal.returns-clause-round
returns-clause-round g c = c.instructions.ensures.round refl ∙ ap (λ f. round_in f c.args.by c.args.id c.args.budget) c.self.view_is

pub returns-clause-log : goal.returns-clause-log
returns-clause-log g c = c.instructions.ensures.store ∙ ap (λ f. round_after f c.args.by c.args.id c.args.budget) c.self.view_is
