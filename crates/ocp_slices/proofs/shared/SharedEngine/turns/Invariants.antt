use Rattle.std.specs.Prelude.{IfSome}
use Rattle.ocp_slices.specs.Continuing.{Continues}
use Rattle.ocp_slices.specs.Replies.{TakeReply}
use Rattle.ocp_slices.proofs.shared.SharedEngine.turns.Given as goal

abbrev pub invariant-loop-turn : goal.invariant-loop-turn
invariant-loop-turn g l = Continues l.turn l.budget l.initial.seat l.seat × IfSome l.next (λ taken. g.B.Board.answers (TakeReply taken))
