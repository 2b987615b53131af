-- Laws of an engine whose journal is handed down.
use Rattle.std.specs.Prelude.{◌≡◌, ℕ, List, ◌++◌, take}
use Rattle.ocp_world.specs.World.{opening}
use Rattle.ocp_world.specs.Replay.{replay_from}
use Rattle.ocp_core.specs.Log as logs
use Rattle.ocp_core.specs.Log.{Log, Entry, expand}
use Rattle.ocp_flight.specs.Flown.{Flown, held_entries, release_after, world_of}

-- the entries that were released, the oldest first
abbrev pub released_entries : Flown → List Entry
released_entries f = take f.released f.entries

-- the state is the replay of the released entries followed by those that are held, from the base
abbrev pub ReplaysReleasedAndHeld : Type 0
ReplaysReleasedAndHeld =
    (f : Flown) →
    world_of f ≡ replay_from f.base (expand (released_entries f ++ held_entries f))

-- a release leaves the base and all entries as they are, and moves entries from those that are held
-- to those that were released
abbrev pub ReleasesKeepTheLog : Type 0
ReleasesKeepTheLog =
    (f : Flown) (count : ℕ) →
    ((release_after f count).base ≡ f.base)
    × ((release_after f count).before ≡ f.before)
    × ((release_after f count).entries ≡ f.entries)
    × (released_entries (release_after f count) ++ held_entries (release_after f count) ≡
    released_entries f ++ held_entries f)

-- an engine with the parameters that this one was opened with, and that got all entries, has the
-- same world, whatever its capacity
abbrev pub SameEntriesSameWorld : Type 0
SameEntriesSameWorld =
    (f : Flown) (engine : Log) →
    f.base ≡ opening engine.profile engine.apid engine.words →
    engine.entries ≡ released_entries f ++ held_entries f → logs.world_of engine ≡ world_of f
