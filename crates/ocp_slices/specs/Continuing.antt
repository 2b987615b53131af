-- What a seat gains in many turns.
use Rattle.std.specs.Prelude.{◌≡◌, ◌≤◌, ◌<◌, ◌⊎◌, ℕ, true, List, ◌++◌, All, length, slice_index_or}
use Rattle.ocp_world.specs.After.{is_accepted}
use Rattle.ocp_core.specs.Log.{Entry, Asked, Steps, Debugged, Drained, Wrote}
use Rattle.ocp_core.specs.Marks.{MarkedEntry}
use Rattle.ocp_seats.specs.Seats.{SeatContents}

-- instructions of one procedure, at least one and no more than a budget, or one if the budget is 0
abbrev pub IsWithin : ℕ → ℕ → Type 0
IsWithin budget count = (1 ≤ count) × ((count ≤ budget) ⊎ (count ≡ 1))

-- the entry is instructions of one procedure by this seat, within a budget
abbrev pub IsShift : ℕ → ℕ → Entry → Type 0
IsShift number budget (Asked by time octets) = ⊥
IsShift number budget (Steps by id count) = (by ≡ number) × IsWithin budget count
IsShift number budget (Debugged by id command) = ⊥
IsShift number budget (Drained by time) = ⊥
IsShift number budget (Wrote by index value) = ⊥

-- the seat keeps its number and its old receipts, and then come at most `turns` new ones, each of
-- instructions of the seat within the budget, of which the last was done
pub record Continues (turns budget : ℕ) (old new : SeatContents) : Type 0 where
  pub number : new.number ≡ old.number
  pub more : List MarkedEntry
  pub receipts : new.receipts ≡ old.receipts ++ more
  pub few : length more ≤ turns
  pub shifts : All (λ (m : MarkedEntry). IsShift old.number budget m.entry) more
  pub done : All (λ (m : MarkedEntry). is_accepted m.mark ≡ true) more

-- each seat continues, and none comes or goes
pub record AllContinue (turns budget : ℕ) (olds news : List SeatContents) : Type 0 where
  pub count : length news ≡ length olds
  pub each : (k : ℕ) (d : SeatContents) → k < length olds →
      Continues turns budget (slice_index_or olds k d) (slice_index_or news k d)
