-- What an event does to an engine whose journal is handed down: what it does to any engine in the
-- world of all entries, but the room is that for the entries held.
use Rattle.std.specs.Prelude.{ℕ}
use Rattle.ocp_table.specs.declared.answers.Slice.{Slice}
use Rattle.ocp_table.specs.declared.answers.Round.{Round}
use Rattle.ocp_world.specs.World.{Event}
use Rattle.ocp_world.specs.After.{Answer}
use Rattle.ocp_core.specs.Stores.{answer_at, event_store, slice_at, slice_store, round_at, round_store}
use Rattle.ocp_flight.specs.Flown.{Flown, is_full, with_entry, world_of}

-- an event that would be accepted is refused if there is no room for its entry
abbrev pub answer_in : Flown → Event → Answer
answer_in f e = answer_at world_of is_full f e

-- an accepted event leaves one entry, and a refused one none
abbrev pub flown_after : Flown → Event → Flown
flown_after f e = event_store world_of is_full with_entry f e

abbrev pub slice_in : Flown → ℕ → ℕ → ℕ → Slice
slice_in f by id budget = slice_at world_of is_full f by id budget

-- the instructions of a slice are one entry
abbrev pub slice_after : Flown → ℕ → ℕ → ℕ → Flown
slice_after f by id budget =
    slice_store world_of is_full with_entry f by id budget

abbrev pub round_in : Flown → ℕ → ℕ → ℕ → Round
round_in f by id budget = round_at world_of is_full f by id budget

-- the instructions of a round are one entry
abbrev pub round_after : Flown → ℕ → ℕ → ℕ → Flown
round_after f by id budget =
    round_store world_of is_full with_entry f by id budget
