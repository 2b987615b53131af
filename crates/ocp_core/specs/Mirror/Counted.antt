-- Events that are all accepted.
use Rattle.std.specs.Prelude.{◌≡◌, ◌+◌, List, length}
use Rattle.ocp_world.specs.World.{World, Event}
use Rattle.ocp_world.specs.Replay.{replay_from}

-- each of them is one more event
abbrev pub AreCounted : World → List Event → Type 0
AreCounted w es = (replay_from w es).events ≡ w.events + length es
