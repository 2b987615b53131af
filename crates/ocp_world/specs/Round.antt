-- A round: a slice that also ends with the first instruction that ends a step.
use Rattle.std.specs.Prelude.{ℕ, zero, suc, replicate, Option, None, is_some, if◌then◌else◌}
use Rattle.ocp_table.specs.declared.answers.Extent.{Extent}
use Rattle.ocp_table.specs.declared.answers.Extent.TheVariants as extents
use Rattle.ocp_table.specs.RequestTable as directive
use Rattle.ocp_table.specs.Deciding.{effect_in}
use Rattle.ocp_table.specs.Slices as table
use Rattle.ocp_world.specs.World.{World, Step}
use Rattle.ocp_world.specs.After.{after}
use Rattle.ocp_world.specs.Replay.{replay_from}

-- the number of the step that the next instruction of this procedure ends, if it ends one
abbrev pub step_ended : World → ℕ → Option ℕ
step_ended w id = table.step_ended (effect_in (directive.Step w.pool) id w.records)

-- the number of the step that the last of n instructions ends, if it ends one
abbrev pub step_at : World → ℕ → ℕ → ℕ → Option ℕ
step_at w by id zero = None
step_at w by id (suc n) = step_ended (replay_from w (replicate n (Step by id))) id

-- how many instructions a round has at most: its budget, or those up to the first that ends a step
abbrev pub round_budget : World → ℕ → ℕ → ℕ → ℕ
round_budget w by id zero = 0
round_budget w by id (suc budget) =
    if is_some (step_ended w id) then 1
    else suc (round_budget (after w (Step by id)).world by id budget)

-- how many instructions there are at most, by their extent
abbrev pub most_events : Extent → World → ℕ → ℕ → ℕ → ℕ
most_events extents.Slice w by id budget = budget
most_events extents.Round w by id budget = round_budget w by id budget
