use Rattle.std.proofs.Common.{refl, ap, ◌∙◌}
use Rattle.ocp_table.specs.Slices.{slice_of}
use Rattle.ocp_world.specs.Round.{round_budget}
use Rattle.ocp_core.specs.Log.{world_of}
use Rattle.ocp_core.specs.Round.{round_in, round_log}
use Rattle.ocp_core.proofs.Growing.{grows_sliced}
use Rattle.ocp_core.proofs.Rounds.{round_some}
use Rattle.ocp_core.proofs.engine.Engine.round.Goals as goal

pub returns-clause-round : goal.returns-clause-round
returns-clause-round g c = c.instructions.ensures.round refl ∙ ap (λ log. round_in log c.args.by c.args.id c.args.budget) c.self.view_is

pub returns-clause-journal : goal.returns-clause-journal
returns-clause-journal g c = c.instructions.ensures.store ∙ ap (λ log. round_log log c.args.by c.args.id c.args.budget) c.self.view_is

pub returns-clause-gain : goal.returns-clause-gain
returns-clause-gain g c =
    let w = world_of c.args.self.now in
    let most = round_budget w c.args.by c.args.id c.args.budget in
    grows_sliced c.args.self.now _ c.args.by c.args.id most _ (round_some w c.args.by c.args.id c.args.budget c.requires) (ap slice_of (returns-clause-round g c)) (returns-clause-journal g c)
