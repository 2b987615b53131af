-- What a closed book gives of the engine behind the lock.
use Rattle.std.proofs.Common.{◌≡◌, ℕ, List, sym, subst, length}
use Rattle.ocp_core.specs.Log.{Log}
use Rattle.ocp_core.specs.Marks.{MarkedEntry}
use Rattle.ocp_seats.specs.declared.close.CloseFault.{CloseFault}
use Rattle.ocp_seats.specs.declared.close.CloseFault.TheVariants.{MissingSeat, ReceiptMismatch}
use Rattle.ocp_seats.specs.Seats.{SeatContents}
use Rattle.ocp_seats.specs.Going.{GoesOn}
use Rattle.ocp_seats.specs.Closing.{IsWhole, RefusesClose}
use Rattle.ocp_seats.specs.History.{IsHistory}
use Rattle.ocp_slices.specs.Closed.{IsClosed, RefusesShared}

pub closed_by : (start now engine : Log) (begin n : ℕ) (seats : List SeatContents) → GoesOn start now → now ≡ engine → begin ≡ length start.entries → IsWhole seats n → IsHistory engine begin seats → IsClosed start now seats
closed_by start now engine begin n seats goes is begins whole history = record {
  goes_on = goes;
  whole = subst (λ (k : ℕ). IsWhole seats k) (sym whole.count) whole;
  history = subst (λ (l : Log). IsHistory l (length start.entries) seats) (sym is) (subst (λ (k : ℕ). IsHistory engine k seats) begins history);
}

pub refused_by : (n : ℕ) (entries : List MarkedEntry) (seats : List SeatContents) (why : CloseFault) → RefusesClose n entries seats why → RefusesShared seats why
refused_by n entries seats MissingSeat refused = tt
refused_by n entries seats ReceiptMismatch refused =
    let whole : IsWhole seats n = refused.0 in
    subst (λ (k : ℕ). IsWhole seats k) (sym whole.count) whole
