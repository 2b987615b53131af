-- What a contract sees of an engine whose journal is handed down: the world that it began in, all
-- entries since then, and how many of the oldest were released. The others are held.
use Rattle.std.specs.Prelude.{ℕ, ◌+◌, ◌-◌, ◌^◌, nat_lt, nat_le, Bool, false, not, if◌then◌else◌, List, [], ◌∷◌, ◌++◌, map, drop, length, Option, None, Some, Result, Ok, Err, slice_get}
use Rattle.ocp_profile.specs.declared.profile.Profile.{Profile}
use Rattle.ocp_world.specs.World.{World, opening}
use Rattle.ocp_world.specs.Replay.{replay_from}
use Rattle.ocp_core.specs.Log.{Entry, expand}
use Rattle.ocp_flight.specs.Pieces.{extent}
use Rattle.ocp_flight.specs.Entries.{entry_octets}
use Rattle.ocp_flight.specs.declared.store.Room.{Room}
use Rattle.ocp_flight.specs.declared.faults.ReleaseFault.{ReleaseFault}
use Rattle.ocp_flight.specs.declared.faults.ReleaseFault.TheVariants.{NotHeld, Spent}
use Rattle.ocp_flight.specs.declared.faults.EntryFault.{EntryFault}
use Rattle.ocp_flight.specs.declared.faults.EntryFault.TheVariants.{Released, NotYet, TooShort}

-- the world that it began in, and how many entries had led to that world; all entries since then;
-- the largest number of entries held; how many of those since then were released; and the largest
-- number of octets that the entries held have together
pub record Flown : Type 0 where
  pub base : World
  pub before : ℕ
  pub entries : List Entry
  pub capacity : ℕ
  pub released : ℕ
  pub octets : ℕ

-- an engine of a profile that begins with no procedure, and with `words` pool words, all of them 0
abbrev pub opened_flown : Profile → ℕ → ℕ → ℕ → ℕ → Flown
opened_flown profile apid words entries octets = record {
  base = opening profile apid words;
  before = 0;
  entries = [];
  capacity = entries;
  released = 0;
  octets = octets;
}

-- the world that it is in: the replay of all entries
unfoldable pub world_of : Flown → World
world_of f = replay_from f.base (expand f.entries)

-- ---- the entries that are held

abbrev pub held_entries : Flown → List Entry
held_entries f = drop f.released f.entries

abbrev pub held_count : Flown → ℕ
held_count f = length (held_entries f)

abbrev pub held_octets : Flown → ℕ
held_octets f = extent (map entry_octets (held_entries f))

-- the index of the oldest of them, counted from the first entry of all
abbrev pub first : Flown → ℕ
first f = f.before + f.released

-- ---- room

-- fewer entries are held than may be, and the octets of this one fit
abbrev pub has_room : Flown → Entry → Bool
has_room f e =
    if nat_lt (held_count f) f.capacity
    then nat_le (held_octets f + length (entry_octets e)) f.octets else false

-- how many entries more, and how many octets more, may be held
abbrev pub room : Flown → Room
room f = record {
  entries = f.capacity - held_count f;
  octets = f.octets - held_octets f;
}

-- ---- the store of an engine

abbrev pub is_full : Flown → Entry → Bool
is_full f e = not (has_room f e)

abbrev pub with_entry : Flown → Entry → Flown
with_entry f e = record f { entries = f.entries ++ e ∷ [] }

-- ---- entries are released

-- refused if fewer are held, and from 2^63 events on
abbrev pub release_answer : Flown → ℕ → Result (Unit {0}) ReleaseFault
release_answer f count =
    if nat_lt (held_count f) count then Err NotHeld
    else if nat_le (2 ^ 63) (world_of f).events then Err Spent
    else Ok tt

-- the oldest `count` of the entries held are released; no entry changes
abbrev pub release_after : Flown → ℕ → Flown
release_after f count =
    if nat_lt (held_count f) count then f
    else if nat_le (2 ^ 63) (world_of f).events then f
    else record f { released = f.released + count }

-- ---- an entry is read

-- how long it is; refused if there is none yet, and if the buffer is shorter
abbrev pub length_told : ℕ → Option Entry → Result ℕ EntryFault
length_told size None = Err NotYet
length_told size (Some e) =
    let length = length (entry_octets e) in
    if nat_le length size then Ok length else Err (TooShort length)

-- the entry of this index, counted from the first entry of all, if it is not from before
abbrev pub entry_at : Flown → ℕ → Option Entry
entry_at f index = slice_get f.entries (index - f.before)

-- what is told of it, with a buffer of this size; refused if it was released
abbrev pub entry_answer : Flown → ℕ → ℕ → Result ℕ EntryFault
entry_answer f index size =
    if nat_lt index (first f) then Err Released
    else length_told size (entry_at f index)

-- its octets from the front on, if they fit; the octets after them stay
abbrev pub octets_written : List ℕ → Option Entry → List ℕ
octets_written before None = before
octets_written before (Some e) =
    let octets = entry_octets e in
    if nat_le (length octets) (length before) then octets ++ drop (length octets) before
    else before

abbrev pub entry_written : Flown → ℕ → List ℕ → List ℕ
entry_written f index before =
    if nat_lt index (first f) then before
    else octets_written before (entry_at f index)
