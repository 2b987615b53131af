use Rattle.std.proofs.Common.{ap, ◌∙◌}
use Rattle.ocp_flight.specs.Calls.{slice_in, slice_after}
use Rattle.ocp_flight.proofs.flight.Flight.slice.Goals as goal

pub returns-clause-slice : goal.returns-clause-slice
returns-clause-slice g c = c.instructions-round.ensures.slice ∙ ap (λ f. slice_in f c.args.by c.args.id c.args.budget) c.self.view_is

pub returns-clause-log : goal.returns-clause-log
returns-clause-log g c = c.instructions-round.ensures.store ∙ ap (λ f. slice_after f c.args.by c.args.id c.args.budget) c.self.view_is
