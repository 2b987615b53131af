-- What a store keeps.
use Rattle.std.specs.Prelude.{◌≡◌, ◌≤◌, ◌+◌, ◌-◌, ◌*◌, ◌^◌, ℕ, List, map, drop, length, false, Option, Some, None}
use Rattle.ocp_profile.specs.declared.limits.TheConstants.{MAX_APID, MAX_CAPACITY}
use Rattle.ocp_world.specs.World.{World, opening}
use Rattle.ocp_core.specs.Log.{Entry, Drained, events_of, expand}
use Rattle.ocp_core.specs.Mirror.Counted.{AreCounted}
use Rattle.ocp_flight.specs.Entries.{entry_octets, entry_in, IsEntryInRange}
use Rattle.ocp_flight.specs.Bounded.{IsBounded}
use Rattle.ocp_flight.specs.Flown.{Flown, is_full, world_of}
use Rattle.ocp_flight.specs.Mirror.Restoration.{base_by, before_by}
use Rattle.ocp_flight.specs.declared.store.BoundedStore.TheInside.{Inside}

abbrev pub entry_or_none : Option Entry → Entry
entry_or_none None = Drained 0 0
entry_or_none (Some e) = e

-- the entry that octets are; of others it is a drain
abbrev pub entry_read : List ℕ → Entry
entry_read octets = entry_or_none (entry_in octets)

abbrev pub entries_read : List (List ℕ) → List Entry
entries_read pieces = map entry_read pieces

module _ {A : Type 0} where
  -- the world that the engine began in, and how many entries had led to it
  abbrev pub base_of : Inside A → World
  base_of s = base_by s.history.restored (opening s.profile s.apid s.words)

  abbrev pub before_of : Inside A → ℕ
  before_of s = before_by s.history.restored

  -- how many entries were released since then
  abbrev pub released_count : Inside A → ℕ
  released_count s = s.first - before_of s

  abbrev pub flown_of : Inside A → Flown
  flown_of s = record {
    base = base_of s;
    before = before_of s;
    entries = entries_read s.history.pieces;
    capacity = s.tape.most;
    released = released_count s;
    octets = s.tape.room;
  }

  pub record IsKept (s : Inside A) : Type 0 where
    pub named : s.apid ≤ MAX_APID
    pub same : (base_of s).apid ≡ s.apid
    pub based : IsBounded (base_of s)
    pub few : length s.tape.pieces ≤ s.tape.most
    pub limit : s.tape.most ≤ MAX_CAPACITY
    pub held : s.tape.pieces ≡ drop (released_count s) s.history.pieces
    pub since : before_of s ≤ s.first
    pub given : released_count s ≤ length s.history.pieces
    pub octets : map entry_octets (entries_read s.history.pieces) ≡ s.history.pieces
    pub counted : s.events ≡
        (base_of s).events + length (expand (entries_read s.history.pieces))
    pub numbered : s.events ≡ (world_of (flown_of s)).events
    pub bounded : s.events ≤ 2 ^ 63 + 2 ^ 32 * length s.tape.pieces
    pub long : before_of s + length s.history.pieces ≤ s.events

-- octets are those of an entry, for which there is room, and whose events are accepted
pub record MayEnter (f : Flown) (octets : List ℕ) (events : ℕ) (e : Entry) : Type 0 where
  pub are : octets ≡ entry_octets e
  pub range : IsEntryInRange e
  pub room : is_full f e ≡ false
  pub count : events ≡ length (events_of e)
  pub some : 1 ≤ events
  pub accepted : AreCounted (world_of f) (events_of e)
