-- A slice of an engine: instructions of one procedure, as one entry of its journal.
use Rattle.std.specs.Prelude.{ℕ, Bool, if◌then◌else◌}
use Rattle.ocp_table.specs.declared.answers.StepOutcome.TheVariants as S
use Rattle.ocp_table.specs.declared.answers.Slice.{Slice}
use Rattle.ocp_world.specs.World.{World, Step}
use Rattle.ocp_world.specs.After.{after, is_accepted}
use Rattle.ocp_world.specs.Slice.{next_outcome, slice_count, slice_last}
use Rattle.ocp_core.specs.Log.{Log, Steps, world_of, is_full, with_entry}

-- the slice in a world, by whether there is no room for a further entry
abbrev pub slice_with : Bool → World → ℕ → ℕ → ℕ → Slice
slice_with full w by id budget =
    if is_accepted (after w (Step by id)).answer then
    (if full then record { count = 0; last = S.JournalFull }
    else record { count = slice_count w by id budget; last = slice_last w by id S.Ran budget })
    else record { count = 0; last = next_outcome w id }

-- a slice whose first instruction is refused, or that finds the journal full, does none
abbrev pub slice_in : Log → ℕ → ℕ → ℕ → Slice
slice_in log by id budget = slice_with (is_full log) (world_of log) by id budget

-- its instructions are one entry
abbrev pub slice_log : Log → ℕ → ℕ → ℕ → Log
slice_log log by id budget =
    let w = world_of log in
    if is_accepted (after w (Step by id)).answer
    then (if is_full log then log else with_entry log (Steps by id (slice_count w by id budget)))
    else log
