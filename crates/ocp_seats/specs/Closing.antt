-- When a book may be closed.
use Rattle.std.specs.Prelude.{◌≡◌, ◌≤◌, ◌==◌, ℕ, List, All, Any, count_by, length}
use Rattle.ocp_seats.specs.declared.close.CloseFault.{CloseFault}
use Rattle.ocp_seats.specs.declared.close.CloseFault.TheVariants.{MissingSeat, ReceiptMismatch}
use Rattle.ocp_core.specs.Marks.{MarkedEntry, by_of, entries_by}
use Rattle.ocp_seats.specs.Seats.{SeatContents}

-- the seats' numbers are 1 to n, each once, so they are n seats
pub record IsWhole (seats : List SeatContents) (n : ℕ) : Type 0 where
  pub count : length seats ≡ n
  pub within : All (λ (s : SeatContents). (1 ≤ s.number) × (s.number ≤ n)) seats
  pub each_once : (k : ℕ) → 1 ≤ k → k ≤ n → count_by (λ (s : SeatContents). s.number == k) seats ≡ 1

-- each entry is by one of the seats, and each seat's receipts are its entries, marks included
pub record IsReceipted (entries : List MarkedEntry) (seats : List SeatContents) : Type 0 where
  pub covered :
      All (λ (m : MarkedEntry). Any (λ (s : SeatContents). s.number ≡ by_of m.entry) seats)
      entries
  pub receipts : All (λ (s : SeatContents). s.receipts ≡ entries_by entries s.number) seats

-- why a book with n seats given out is not closed, in this order
abbrev pub RefusesClose : ℕ → List MarkedEntry → List SeatContents → CloseFault → Type 0
RefusesClose n entries seats MissingSeat = IsWhole seats n → ⊥
RefusesClose n entries seats ReceiptMismatch =
    IsWhole seats n × (IsReceipted entries seats → ⊥)
