-- What is known of an engine that seats closed.
use Rattle.std.specs.Prelude.{◌≡◌, ◌≤◌, ℕ, true, List, All, length, drop}
use Rattle.ocp_world.specs.After.{is_accepted}
use Rattle.ocp_core.specs.Log.{Log, Entry, Asked, Steps, Debugged, Drained, Wrote}
use Rattle.ocp_core.specs.Marks.{MarkedEntry, entries_with_marks}
use Rattle.ocp_seats.specs.declared.close.CloseFault.{CloseFault}
use Rattle.ocp_seats.specs.declared.close.CloseFault.TheVariants.{MissingSeat, ReceiptMismatch}
use Rattle.ocp_seats.specs.Seats.{SeatContents}
use Rattle.ocp_seats.specs.Going.{GoesOn}
use Rattle.ocp_seats.specs.Closing.{IsWhole}
use Rattle.ocp_seats.specs.History.{IsHistory}
use Rattle.ocp_slices.specs.Continuing.{IsWithin}

-- the journal is the one at the start, followed by further entries; the n seats have the numbers 1
-- to n, each once; and the further entries are, with their marks, exactly the seats' receipts
pub record IsClosed (start now : Log) (seats : List SeatContents) : Type 0 where
  pub goes_on : GoesOn start now
  pub whole : IsWhole seats (length seats)
  pub history : IsHistory now (length start.entries) seats

-- a mismatch is answered only if the n seats have the numbers 1 to n, each once
abbrev pub RefusesShared : List SeatContents → CloseFault → Type 0
RefusesShared seats MissingSeat = Unit {0}
RefusesShared seats ReceiptMismatch = IsWhole seats (length seats)

-- the entry is instructions of one procedure, by one of `crew` workers, within their budget
abbrev pub IsWorked : ℕ → ℕ → Entry → Type 0
IsWorked crew budget (Asked by time octets) = ⊥
IsWorked crew budget (Steps by id count) =
    (1 ≤ by) × (by ≤ crew) × IsWithin budget count
IsWorked crew budget (Debugged by id command) = ⊥
IsWorked crew budget (Drained by time) = ⊥
IsWorked crew budget (Wrote by index value) = ⊥

-- `crew` workers have worked: the journal is the one at the start, followed by one history of
-- `crew` seats, whose entries are only instructions, within the budget, the last of each done, and
-- no more of a seat than its turns
pub record HasWorked (start now : Log) (crew budget turns : ℕ) : Type 0 where
  pub seats : List SeatContents
  pub count : length seats ≡ crew
  pub closed : IsClosed start now seats
  pub few : All (λ (s : SeatContents). length s.receipts ≤ turns) seats
  pub worked : All (λ (e : Entry). IsWorked crew budget e) (drop (length start.entries) now.entries)
  pub done :
      All (λ (m : MarkedEntry). is_accepted m.mark ≡ true)
      (drop (length start.entries) (entries_with_marks now))
