-- Which procedure's turn is next.
use Rattle.std.specs.Prelude.{◌≡◌, ◌<◌, ◌≤◌, ℕ, true, Option, Some, None}
use Rattle.std.specs.FinMap.{get}
use Rattle.ocp_table.specs.Records.{Records}
use Rattle.ocp_world.specs.Slice.{is_running}

-- the procedure is loaded and runs
abbrev pub Runs : Records → ℕ → Type 0
Runs m id = is_running (get m id) ≡ true

-- the procedure is loaded and runs, and its id is above the one before
pub record RunsAbove (m : Records) (before id : ℕ) : Type 0 where
  pub runs : Runs m id
  pub above : before < id

pub record IsLeast (P : ℕ → Type 0) (id : ℕ) : Type 0 where
  pub holds : P id
  pub least : (other : ℕ) → P other → id ≤ other

-- the least number of which this holds, or none if it holds of none
abbrev pub IsLeastOf : (ℕ → Type 0) → Option ℕ → Type 0
IsLeastOf P None = (id : ℕ) → P id → ⊥
IsLeastOf P (Some id) = IsLeast P id

-- the least that runs above the one before; if none runs above it, the least of all that run
pub record IsNextAfter (m : Records) (before : ℕ) (next : Option ℕ) : Type 0 where
  pub above : (id : ℕ) → RunsAbove m before id → IsLeastOf (RunsAbove m before) next
  pub round : ((id : ℕ) → RunsAbove m before id → ⊥) → IsLeastOf (Runs m) next

-- the procedure whose turn is next after the one before, or at first the least of all that run
abbrev pub IsNextRunning : Records → Option ℕ → Option ℕ → Type 0
IsNextRunning m None next = IsLeastOf (Runs m) next
IsNextRunning m (Some before) next = IsNextAfter m before next
