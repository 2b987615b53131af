-- An engine that gains an entry is replayed further.
use Rattle.std.proofs.Common.{◌≡◌, ap, ◌∙◌}
use Rattle.ocp_world.specs.Replay.{replay_from}
use Rattle.ocp_core.specs.Log.{Entry, events_of, expand}
use Rattle.ocp_core.specs.Mirror.Replays.{replay_from-append, expand-with_entry}
use Rattle.ocp_flight.specs.Flown.{Flown, with_entry, world_of}

-- an engine with one more entry is replayed by that entry's events
pub world_of-with_entry : (f : Flown) (e : Entry) →
    world_of (with_entry f e) ≡ replay_from (world_of f) (events_of e)
unfolding world_of
world_of-with_entry f e =
    ap (replay_from f.base) (expand-with_entry f.entries e)
    ∙ replay_from-append f.base (expand f.entries) (events_of e)
