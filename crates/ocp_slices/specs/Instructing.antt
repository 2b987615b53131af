-- What workers do to a world.
use Rattle.std.specs.Prelude.{◌≡◌, ◌≤◌, ℕ, true, List, [], ◌∷◌, ◌++◌}
use Rattle.ocp_world.specs.World.{World, Event, Request, Step, Debug, Drain, Put}
use Rattle.ocp_world.specs.After.{after, is_accepted}
use Rattle.ocp_world.specs.Replay.{replay_from}
use Rattle.ocp_world.specs.NextRunning.{Runs}
use Rattle.ocp_core.specs.Log.{Log, expand, world_of}

-- the event is an instruction of a procedure that runs, by one of `crew` workers, and is done
abbrev pub IsInstruction : ℕ → World → Event → Type 0
IsInstruction crew w (Request by time octets) = ⊥
IsInstruction crew w (Step by id) =
    (1 ≤ by) × (by ≤ crew) × Runs w.records id × (is_accepted (after w (Step by id)).answer ≡ true)
IsInstruction crew w (Debug by id command) = ⊥
IsInstruction crew w (Drain by time) = ⊥
IsInstruction crew w (Put by index value) = ⊥

-- each event is an instruction of a procedure that runs, by one of `crew` workers, in the world
-- that the events before it leave, and it is done
abbrev pub AreInstructions : ℕ → World → List Event → Type 0
AreInstructions crew w [] = Unit {0}
AreInstructions crew w (e ∷ es) =
    IsInstruction crew w e × AreInstructions crew (after w e).world es

-- the world of the later journal is that of the earlier one after a list of instruction events of
-- running procedures, each by one of `crew` workers; these are the single events of the entries
-- that came
pub record IsInstructed (start now : Log) (crew : ℕ) : Type 0 where
  pub events : List Event
  pub instructions : AreInstructions crew (world_of start) events
  pub world : world_of now ≡ replay_from (world_of start) events
  pub journal : expand now.entries ≡ expand start.entries ++ events
