use Rattle.std.proofs.Common.{ap, ◌∙◌}
use Rattle.ocp_core.specs.Slice.{slice_in, slice_log}
use Rattle.ocp_core.proofs.Growing.{grows_sliced}
use Rattle.ocp_core.proofs.engine.Engine.slice.Goals as goal

pub returns-clause-slice : goal.returns-clause-slice
returns-clause-slice g c = c.instructions-round.ensures.slice ∙ ap (λ log. slice_in log c.args.by c.args.id c.args.budget) c.self.view_is

pub returns-clause-journal : goal.returns-clause-journal
returns-clause-journal g c = c.instructions-round.ensures.store ∙ ap (λ log. slice_log log c.args.by c.args.id c.args.budget) c.self.view_is

pub returns-clause-gain : goal.returns-clause-gain
returns-clause-gain g c = grows_sliced c.args.self.now _ c.args.by c.args.id c.args.budget _ c.requires (returns-clause-slice g c) (returns-clause-journal g c)
