use Rattle.std.proofs.Common.{replicate, sym, subst}
use Rattle.ocp_world.specs.World.{Step}
use Rattle.ocp_world.specs.Replay.{replay_from}
use Rattle.ocp_world.specs.Mirror.State.{IsWorld}
use Rattle.ocp_core.proofs.Replaying.{replay_from-steps}
use Rattle.ocp_core.proofs.replay.steps.Goals as goal

pub loop-done-preserved : goal.loop-done-preserved
loop-done-preserved g c w by stands = subst (λ v. IsWorld v c.instruction.new.self) (sym (replay_from-steps w by c.args.id c.loop-done._done)) (c.instruction.ensures.world (replay_from w (replicate c.loop-done._done (Step by c.args.id))) by (c.loop-done.invariant w by stands))
