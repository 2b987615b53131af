use Rattle.ocp_slices.proofs.Turning.{committed, stale, full, full_step, stepped}
use Rattle.ocp_slices.proofs.turn.put_back.Goals as goal

pub returns-in-Committed : goal.returns-in-Committed
returns-in-Committed g c = record {
  turned = λ budget did. committed g.B.Board.answers budget c.args.seat.now c.args.work.now did c.in-Committed.count c.hand_in-outcome.new.seat c.in-Committed.ensures.handed_in.given c.in-Committed.ensures.handed_in.gains c.in-Committed.ensures.handed_in.empty c.in-Committed.ensures.handed_in.count;
}

pub returns-in-Stale : goal.returns-in-Stale
returns-in-Stale g c = record {
  turned = λ budget did. stale g.B.Board.answers budget c.args.seat.now c.args.work.now did c.hand_in-outcome.new.seat c.in-Stale.ensures.handed_in.given c.in-Stale.ensures.handed_in.gains;
}

pub returns-in-JournalFull : goal.returns-in-JournalFull
returns-in-JournalFull g c = record {
  turned = λ budget did. full g.B.Board.answers budget c.args.seat.now c.args.work.now did c.hand_in-outcome.new.seat c.in-JournalFull.ensures.handed_in.given c.in-JournalFull.ensures.handed_in.gains;
}

pub returns-in-JournalFull-apply : goal.returns-in-JournalFull-apply
returns-in-JournalFull-apply g c = record {
  turned = λ budget did. full_step g.B.Board.answers budget c.args.seat.now c.args.work.now did c.in-Empty.ensures.handed_in.given c.hand_in-outcome.new.seat c.in-Empty.ensures.handed_in.gains c.id-id.result c.id-id.ensures c.apply.new.seat c.in-JournalFull-apply.ensures.served.given c.in-JournalFull-apply.ensures.served.gains;
}

pub returns-in_default : goal.returns-in_default
returns-in_default g c = record {
  turned = λ budget did. stepped g.B.Board.answers budget c.args.seat.now c.args.work.now did c.in-Empty.ensures.handed_in.given c.hand_in-outcome.new.seat c.in-Empty.ensures.handed_in.gains c.id-id.result c.id-id.ensures c.apply.new.seat c.apply.result c.in_default.not-JournalFull c.apply.ensures.served.given c.apply.ensures.served.gains;
}
