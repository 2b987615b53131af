-- A round of an engine: a slice that also ends with the first instruction that ends a step, as one
-- entry of its journal.
use Rattle.std.specs.Prelude.{ℕ}
use Rattle.ocp_table.specs.declared.answers.Slice.{Slice}
use Rattle.ocp_table.specs.declared.answers.Round.{Round}
use Rattle.ocp_world.specs.World.{World}
use Rattle.ocp_world.specs.Round.{round_budget, step_at}
use Rattle.ocp_core.specs.Log.{Log, world_of}
use Rattle.ocp_core.specs.Slice.{slice_in, slice_log}

-- a slice, and the number of the step that its last instruction ended, if it ended one
abbrev pub round_of : World → ℕ → ℕ → Slice → Round
round_of w by id slice = record {
  count = slice.count;
  last = slice.last;
  step = step_at w by id slice.count;
}

-- the slice whose budget is the largest number of instructions of the round
abbrev pub round_in : Log → ℕ → ℕ → ℕ → Round
round_in log by id budget =
    let w = world_of log in round_of w by id (slice_in log by id (round_budget w by id budget))

-- its instructions are one entry
abbrev pub round_log : Log → ℕ → ℕ → ℕ → Log
round_log log by id budget = slice_log log by id (round_budget (world_of log) by id budget)
