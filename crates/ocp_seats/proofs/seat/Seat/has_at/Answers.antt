use Rattle.std.proofs.Common.{ap, rules}
use Rattle.ocp_core.specs.Journal.{entry_with_mark}
use Rattle.ocp_seats.specs.Seats.{SeatContents}
use Rattle.ocp_seats.proofs.Walks.{receipt_read}
use Rattle.ocp_seats.proofs.seat.Seat.has_at.Goals as goal

pub returns-clause-same : goal.returns-clause-same
returns-clause-same g c = receipt_read entry_with_mark c.self.inside.receipts.items c.args.self.now.receipts c.args.place _ (entry_with_mark c.args.entry.now) c.is_same.result (ap (λ (s : SeatContents). s.receipts) c.self.view_is) (search rules) (search rules) c.is_same.ensures
