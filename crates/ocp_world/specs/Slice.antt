-- A slice: instructions of one procedure, up to a budget, until it no longer runs.
use Rattle.std.specs.Prelude.{ℕ, zero, suc, Bool, false, Option, if◌then◌else◌}
use Rattle.std.specs.FinMap.{get}
use Rattle.obcp_types.specs.declared.status.Status.{Status}
use Rattle.ocp_table.specs.Records.{Rec}
use Rattle.ocp_table.specs.Effects.{step_outcome}
use Rattle.ocp_table.specs.RequestTable as directive
use Rattle.ocp_table.specs.Deciding.{effect_in}
use Rattle.ocp_table.specs.declared.answers.StepOutcome.{StepOutcome}
use Rattle.ocp_table.specs.Slices as table
use Rattle.ocp_world.specs.World.{World, Step}
use Rattle.ocp_world.specs.After.{after}

abbrev pub is_running_status : Status → Bool
is_running_status = table.is_running_status

-- whether a procedure is loaded and runs
abbrev pub is_running : Option Rec → Bool
is_running = table.is_running

-- whether a slice goes on after this outcome, as long as the procedure runs
abbrev pub is_on : StepOutcome → Bool
is_on = table.is_on

-- the outcome of an instruction event of this procedure
abbrev pub next_outcome : World → ℕ → StepOutcome
next_outcome w id = step_outcome (effect_in (directive.Step w.pool) id w.records)

-- whether a slice goes on after it
abbrev pub goes_on : World → ℕ → ℕ → Bool
goes_on w by id =
    if is_on (next_outcome w id) then is_running (get (after w (Step by id)).world.records id)
    else false

-- how many instructions a slice does
abbrev pub slice_count : World → ℕ → ℕ → ℕ → ℕ
slice_count w by id zero = 0
slice_count w by id (suc budget) =
    if goes_on w by id then suc (slice_count (after w (Step by id)).world by id budget) else 1

-- the outcome of its last one
abbrev pub slice_last : World → ℕ → ℕ → StepOutcome → ℕ → StepOutcome
slice_last w by id last zero = last
slice_last w by id last (suc budget) =
    if goes_on w by id
    then slice_last (after w (Step by id)).world by id (next_outcome w id) budget
    else next_outcome w id
