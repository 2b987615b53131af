-- What a store holds, by the octets of all entries.
use Rattle.std.proofs.Common.{◌≡◌, ◌+◌, ℕ, Bool, true, false, cond, ◌++◌, map, length, take, drop, refl, sym, ap, ◌∙◌, arith}
use Rattle.std.specs.Prelude.{◌^◌, nat_lt, nat_le, not}
use Rattle.std.proofs.lemmas.List.{drop-map, length-map, length-drop, take-append-drop}
use Rattle.ocp_flight.specs.Pieces.{TapeContents, extent}
use Rattle.ocp_flight.specs.Pieces as tapes
use Rattle.ocp_world.specs.Replay.{replay_from}
use Rattle.ocp_core.specs.Log.{Entry, expand, world_of as world_of_log}
use Rattle.ocp_flight.specs.Entries.{entry_octets, IsEntryInRange}
use Rattle.ocp_flight.specs.Flown.{Flown, held_entries, held_count, held_octets, has_room, is_full, release_after, world_of}
use Rattle.ocp_flight.specs.Laws.{ReplaysReleasedAndHeld, ReleasesKeepTheLog, SameEntriesSameWorld}
use Rattle.ocp_flight.specs.Mirror.Kept.{entry_or_none, entry_read, entries_read, released_count, flown_of, IsKept}
use Rattle.ocp_flight.specs.declared.store.BoundedStore.TheInside.{Inside}
use Rattle.ocp_flight.proofs.ReadBack.{are_read_back}

pub read_back : (e : Entry) → IsEntryInRange e → entry_read (entry_octets e) ≡ e
read_back e range = ap entry_or_none (are_read_back e range)

pub not_false : (b : Bool) → not b ≡ false → b ≡ true
not_false true is = refl
not_false false is = cc

module _ {A : Type 0} (s : Inside A) (kept : IsKept s) where
  -- the octets of the entries that are held
  pub held_pieces : map entry_octets (held_entries (flown_of s)) ≡ s.tape.pieces
  held_pieces =
      sym (drop-map entry_octets (released_count s) (entries_read s.history.pieces))
      ∙ ap (drop (released_count s)) kept.octets
      ∙ sym kept.held

  pub count_held : held_count (flown_of s) ≡ length s.tape.pieces
  count_held = sym (length-map (held_entries (flown_of s)) entry_octets) ∙ ap length held_pieces

  pub extent_held : held_octets (flown_of s) ≡ extent s.tape.pieces
  extent_held = ap extent held_pieces

  pub room_held : (e : Entry) → has_room (flown_of s) e ≡ tapes.has_room s.tape (length (entry_octets e))
  room_held e =
      let n = length (entry_octets e) in
      λ i. cond (nat_lt (count_held i) s.tape.most) (nat_le (extent_held i + n) s.tape.room) false

  pub has_room_so : (e : Entry) → is_full (flown_of s) e ≡ false → tapes.has_room s.tape (length (entry_octets e)) ≡ true
  has_room_so e free = sym (room_held e) ∙ not_false (has_room (flown_of s) e) free

  -- at most as many pieces as entries of the log
  pub count_pieces : length s.tape.pieces + released_count s ≡ length s.history.pieces
  count_pieces = omega (arith, ap length kept.held, length-drop (released_count s) s.history.pieces, kept.given)

-- ---- all entries

-- those that were released, and those that are held, are all
pub all_entries : (f : Flown) → take f.released f.entries ++ held_entries f ≡ f.entries
all_entries f = take-append-drop f.released f.entries

-- ---- a release

-- it gives up entries, and changes nothing else
pub released_more : (f : Flown) (count : ℕ) → (n : ℕ) × (release_after f count ≡ record f { released = n })
released_more f count = by_tests (nat_lt (held_count f) count) (nat_le (2 ^ 63) (world_of f).events)
  where
    by_tests : (few spent : Bool) → (n : ℕ) × (cond few f (cond spent f (record f { released = f.released + count })) ≡ record f { released = n })
    by_tests true spent = (f.released, refl)
    by_tests false true = (f.released, refl)
    by_tests false false = (f.released + count, refl)

pub released_world : (f : Flown) (count : ℕ) → world_of (release_after f count) ≡ world_of f
unfolding world_of
released_world f count = ap (λ (g : Flown). replay_from g.base (expand g.entries)) (released_more f count).1

-- ---- the laws

pub replays_all : ReplaysReleasedAndHeld
unfolding world_of
replays_all f = ap (λ es. replay_from f.base (expand es)) (sym (all_entries f))

pub releases_keep : ReleasesKeepTheLog
releases_keep f count =
    let more = (released_more f count).1 in
    let same = ap (λ (g : Flown). g.entries) more in
    (ap (λ (g : Flown). g.base) more, ap (λ (g : Flown). g.before) more, same, all_entries (release_after f count) ∙ same ∙ sym (all_entries f))

pub same_entries : SameEntriesSameWorld
unfolding world_of world_of_log
same_entries f engine base entries = λ i. replay_from (sym base i) (expand ((entries ∙ all_entries f) i))
