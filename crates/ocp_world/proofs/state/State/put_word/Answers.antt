use Rattle.std.proofs.Common.{ap, ◌∙◌}
use Rattle.std.specs.Prelude.{slice_set}
use Rattle.ocp_world.proofs.Putting.{IsWorld-put}
use Rattle.ocp_world.proofs.state.State.put_word.Goals as goal

pub returns : goal.returns
returns g c w by stands =
    IsWorld-put w c.args.self.now stands by c.args.index c.args.value c.requires _
    (c.set.ensures ∙ ap (λ i. slice_set c.args.self.now.pool i c.args.value) c.from.ensures)
