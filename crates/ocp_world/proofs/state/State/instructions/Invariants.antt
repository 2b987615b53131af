use Rattle.ocp_world.proofs.Slicing.{IsSliced}
use Rattle.ocp_world.proofs.state.State.instructions.Given as goal

-- the steps so far
abbrev pub invariant-loop-done : goal.invariant-loop-done
invariant-loop-done g l = IsSliced l.extent l.fn.self l.self l.id l.done l.last
