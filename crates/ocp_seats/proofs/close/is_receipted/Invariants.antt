use Rattle.std.proofs.Common.{◌≡◌, ℕ, ◌<◌, length, map, get_or}
use Rattle.ocp_core.specs.Journal.{entry_with_mark}
use Rattle.ocp_seats.specs.Seats.{SeatContents}
use Rattle.ocp_seats.proofs.Walks.{Walked}
use Rattle.ocp_seats.proofs.close.is_receipted.Given as goal

abbrev pub invariant-loop-entry : goal.invariant-loop-entry
invariant-loop-entry g l = Walked (map entry_with_mark l.entries) l.entry-index l.places l.seats

abbrev pub invariant-loop-seat : goal.invariant-loop-seat
invariant-loop-seat g l = Walked (map entry_with_mark l.entries) (length (map entry_with_mark l.entries)) l.places l.seats × ((k : ℕ) (d : SeatContents) → k < l.seat-index → get_or l.places (get_or l.seats k d).number 0 ≡ length (get_or l.seats k d).receipts)
