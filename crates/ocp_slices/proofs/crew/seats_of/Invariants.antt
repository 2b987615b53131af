use Rattle.std.proofs.Common.{◌≡◌, [], All, length}
use Rattle.ocp_seats.specs.Seats.{SeatContents}
use Rattle.ocp_slices.proofs.crew.seats_of.Given as goal

abbrev pub invariant-loop-seat : goal.invariant-loop-seat
invariant-loop-seat g l = (length l.seats.items ≡ l._seat) × All (λ (s : SeatContents). s.receipts ≡ []) l.seats.items
