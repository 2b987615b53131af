use Rattle.std.proofs.Common.{sym, ap, subst, ◌∙◌}
use Rattle.ocp_world.specs.World.{Put}
use Rattle.ocp_world.specs.After.{after, is_accepted}
use Rattle.ocp_world.specs.Mirror.State.{IsWorld}
use Rattle.ocp_core.proofs.replay.write.Goals as goal

pub returns-in-Some : goal.returns-in-Some
returns-in-Some g c w by stands =
    subst (λ i. IsWorld (after w (Put by i c.args.value)).world c.put_word.new.self) (c.in-Some.ensures.word.0 ∙ c.from.ensures) (c.put_word.ensures w by stands)

pub returns-in_default : goal.returns-in_default
returns-in_default g c w by stands =
    let told = c.in_default.ensures.answer w by c.args.value stands in
    let kept = c.refused_events_change_nothing.ensures w (Put by c.from.result c.args.value) (ap is_accepted told) in
    subst (λ i. IsWorld (after w (Put by i c.args.value)).world c.args.state.now) c.from.ensures (subst (λ v. IsWorld v c.args.state.now) (sym kept) stands)
