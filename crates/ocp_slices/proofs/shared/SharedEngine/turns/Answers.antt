use Rattle.ocp_slices.proofs.Continuing.{continues_unchanged, continues_by_turn}
use Rattle.ocp_slices.proofs.shared.SharedEngine.turns.Goals as goal

pub loop-turn-init : goal.loop-turn-init
loop-turn-init g c = (continues_unchanged c.args.budget c.args.seat.now, tt)

pub loop-turn-preserved : goal.loop-turn-preserved
loop-turn-preserved g c = (continues_by_turn g.B.Board.answers c.loop-turn.turn c.args.budget c.args.seat.now c.loop-turn.seat c.turn_by-turn.new.seat c.turn_by-turn.result.0 c.loop-turn.invariant.0 c.turn_by-turn.ensures.turned, c.turn_by-turn.ensures.given)
