use Rattle.std.proofs.Common.{◌≡◌, ℕ, ◌<◌, ◌≤◌, ◌==◌, count_by, get_or, All}
use Rattle.ocp_seats.specs.Seats.{SeatContents}
use Rattle.ocp_seats.proofs.close.is_whole.Given as goal

abbrev pub invariant-loop-seat : goal.invariant-loop-seat
invariant-loop-seat g l = (k : ℕ) (d : SeatContents) → k < l.seat-index → (1 ≤ (get_or l.seats k d).number) × ((get_or l.seats k d).number ≤ l.handed_out)

abbrev pub invariant-loop-number : goal.invariant-loop-number
invariant-loop-number g l = All (λ (s : SeatContents). (1 ≤ s.number) × (s.number ≤ l.handed_out)) l.seats × ((k : ℕ) → 1 ≤ k → k < l.number → count_by (λ (s : SeatContents). s.number == k) l.seats ≡ 1)
