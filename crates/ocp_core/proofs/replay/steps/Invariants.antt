use Rattle.std.proofs.Common.{ℕ, replicate}
use Rattle.ocp_world.specs.World.{World, Step}
use Rattle.ocp_world.specs.Replay.{replay_from}
use Rattle.ocp_world.specs.Mirror.State.{IsWorld}
use Rattle.ocp_core.proofs.replay.steps.Given as goal

abbrev pub invariant-loop-done : goal.invariant-loop-done
invariant-loop-done g l = (w : World) (by : ℕ) → IsWorld w l.fn.state → IsWorld (replay_from w (replicate l._done (Step by l.id))) l.state
