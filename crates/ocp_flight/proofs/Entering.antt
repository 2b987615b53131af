-- A store gains an entry, and drops the oldest.
use Rattle.std.proofs.Common.{◌≡◌, ◌≤◌, ◌<◌, ◌+◌, ◌^◌, ℕ, true, false, None, List, [], ◌∷◌, ◌++◌, map, length, drop, refl, sym, ap, subst, ◌∙◌, arith, length-append}
use Rattle.std.proofs.lemmas.List.{map-append, drop-append-le, drop-drop, length-drop}
use Rattle.ocp_profile.specs.declared.limits.TheConstants.{MAX_APID, MAX_CAPACITY}
use Rattle.ocp_flight.specs.Pieces.{TapeContents}
use Rattle.ocp_flight.specs.Pieces as tapes
use Rattle.ocp_flight.proofs.Cut.{most-of-room}
use Rattle.ocp_flight.specs.declared.history.History.{History}
use Rattle.ocp_world.specs.World.{World, opening}
use Rattle.ocp_core.specs.Log.{Entry, expand, events_of}
use Rattle.ocp_core.specs.Mirror.Counted.{AreCounted}
use Rattle.ocp_core.proofs.Replays.{length-expand-with_entry}
use Rattle.ocp_flight.specs.Entries.{entry_octets, IsEntryInRange}
use Rattle.ocp_flight.specs.Bounded.{IsBounded}
use Rattle.ocp_flight.specs.Flown.{Flown, is_full, with_entry, world_of}
use Rattle.ocp_flight.specs.Mirror.Restoration.{Restoration, base_by, before_by}
use Rattle.ocp_flight.specs.Mirror.Kept.{entry_read, entries_read, base_of, before_of, released_count, flown_of, IsKept}
use Rattle.ocp_flight.specs.declared.store.BoundedStore.TheInside.{Inside}
use Rattle.ocp_flight.proofs.Bounds.{opening_bounded}
use Rattle.ocp_flight.proofs.Storing.{read_back, count_pieces, has_room_so}
use Rattle.ocp_flight.proofs.Worlds.{number_more, world_none, same_world}

-- ---- other entries on another tape

abbrev flown_with : {A : Type 0} → Inside A → Restoration → TapeContents → List Entry → ℕ → Flown
flown_with s restored tape entries released = record {
  base = base_by restored (opening s.profile s.apid s.words);
  before = before_by restored;
  entries = entries;
  capacity = tape.most;
  released = released;
  octets = tape.room;
}

-- ---- no entry yet

module _ {A : Type 0} (s : Inside A) (empty : s.tape.pieces ≡ []) (none : s.history.pieces ≡ []) (opened : s.history.restored ≡ None) (first : s.first ≡ 0) (zero : s.events ≡ 0) where
  abbrev start : World
  start = opening s.profile s.apid s.words

  based : base_of s ≡ start
  based = ap (λ r. base_by r start) opened

  from_none : before_of s ≡ 0
  from_none = ap before_by opened

  released_none : released_count s ≡ 0
  released_none = omega (arith, first)

  pub flown_none : flown_of s ≡ flown_with s None s.tape [] 0
  flown_none = λ i. flown_with s (opened i) s.tape (entries_read (none i)) (released_none i)

  pub kept_none : s.apid ≤ MAX_APID → s.tape.most ≤ MAX_CAPACITY → IsKept s
  kept_none named limit = record {
    named = named;
    same = ap (λ (w : World). w.apid) based;
    based = subst IsBounded (sym based) (opening_bounded s.profile s.apid s.words);
    few = omega (arith, ap length empty);
    limit = limit;
    held = empty ∙ (λ i. drop (sym released_none i) (sym none i));
    since = omega (arith, from_none);
    given = omega (arith, released_none);
    octets = ap (λ ps. map entry_octets (entries_read ps)) none ∙ sym none;
    counted = zero ∙ sym ((λ i. (based i).events + length (expand (entries_read (none i)))));
    numbered = zero ∙ sym (ap (λ (w : World). w.events) (world_none (flown_of s) (ap entries_read none) ∙ based));
    bounded = omega (arith, zero);
    long = omega (arith, from_none, ap length none, zero);
  }

-- ---- one more entry

module _ {A : Type 0} (s : Inside A) (e : Entry) (p : List ℕ) (is : p ≡ entry_octets e) (range : IsEntryInRange e) (tape : TapeContents) (history : History) (events : ℕ)
    (taped : tape ≡ record s.tape { pieces = s.tape.pieces ++ p ∷ [] }) (noted : history ≡ record s.history { pieces = s.history.pieces ++ p ∷ [] }) where
  abbrev new : Inside A
  new = record s { tape = tape; history = history; events = events }

  more : history.pieces ≡ s.history.pieces ++ p ∷ []
  more = ap (λ (h : History). h.pieces) noted

  entries_more : entries_read history.pieces ≡ entries_read s.history.pieces ++ e ∷ []
  entries_more =
      ap entries_read more
      ∙ map-append entry_read s.history.pieces (p ∷ [])
      ∙ ap (λ last. entries_read s.history.pieces ++ last ∷ []) (ap entry_read is ∙ read_back e range)

  released_same : released_count new ≡ released_count s
  released_same = ap (λ (h : History). released_count (record s { history = h })) noted

  pub flown_more : flown_of new ≡ with_entry (flown_of s) e
  flown_more = λ i. flown_with s (noted i).restored (taped i) (entries_more i) (released_same i)

  pub kept_more : IsKept s → length s.tape.pieces < s.tape.most → events ≡ s.events + length (events_of e) → 1 ≤ length (events_of e) → length (events_of e) < 2 ^ 32 → AreCounted (world_of (flown_of s)) (events_of e) → IsKept new
  kept_more kept free counted some few accepted =
      let pieces : tape.pieces ≡ s.tape.pieces ++ p ∷ [] = ap (λ t. t.pieces) taped in
      let size : length tape.pieces ≡ length s.tape.pieces + 1 = omega (arith, ap length pieces, length-append s.tape.pieces (p ∷ [])) in
      let sizes : length history.pieces ≡ length s.history.pieces + 1 = omega (arith, ap length more, length-append s.history.pieces (p ∷ [])) in
      let most : tape.most ≡ s.tape.most = ap (λ t. t.most) taped in
      let base : base_of new ≡ base_of s = ap (λ f. f.base) flown_more in
      let before : before_of new ≡ before_of s = ap (λ f. f.before) flown_more in
      let number = number_more (flown_of s) (flown_of new) e flown_more accepted in
      let count = ap (λ es. length (expand es)) entries_more ∙ length-expand-with_entry (entries_read s.history.pieces) e in
      record {
        named = kept.named;
        same = ap (λ (w : World). w.apid) base ∙ kept.same;
        based = subst IsBounded (sym base) kept.based;
        few = omega (arith, size, free, most);
        limit = omega (arith, kept.limit, most);
        held = pieces ∙ ap (λ ps. ps ++ p ∷ []) kept.held ∙ sym (drop-append-le (released_count s) s.history.pieces (p ∷ []) kept.given) ∙ (λ i. drop (sym released_same i) (sym more i));
        since = omega (arith, before, kept.since);
        given = omega (arith, released_same, sizes, kept.given);
        octets = ap (map entry_octets) entries_more ∙ map-append entry_octets (entries_read s.history.pieces) (e ∷ []) ∙ (λ i. kept.octets i ++ (sym is i) ∷ []) ∙ sym more;
        counted = omega (arith, counted, kept.counted, ap (λ (w : World). w.events) base, count);
        numbered = omega (arith, counted, kept.numbered, number);
        bounded = omega (arith, counted, kept.bounded, few, size);
        long = omega (arith, before, counted, kept.long, some, sizes);
      }

-- ---- an entry for which there is room

module _ {A : Type 0} (s : Inside A) (kept : IsKept s) (f : Flown) (view : flown_of s ≡ f) (e : Entry) (range : IsEntryInRange e) (free : is_full f e ≡ false)
    (head packet : List ℕ) (octets : head ++ packet ≡ entry_octets e) where
  pub fits : tapes.has_room s.tape (length head + length packet) ≡ true
  fits =
      let room = has_room_so s kept e (subst (λ g. is_full g e ≡ false) (sym view) free) in
      let size : length (entry_octets e) ≡ length head + length packet = ap length (sym octets) ∙ length-append head packet in
      subst (λ n. tapes.has_room s.tape n ≡ true) size room

  module _ (tape : TapeContents) (history : History) (events : ℕ)
      (taped : tape ≡ record s.tape { pieces = s.tape.pieces ++ (head ++ packet) ∷ [] }) (noted : history ≡ record s.history { pieces = s.history.pieces ++ (head ++ packet) ∷ [] }) where
    pub flown_entered : flown_of (record s { tape = tape; history = history; events = events }) ≡ with_entry f e
    flown_entered = flown_more s e (head ++ packet) octets range tape history events taped noted ∙ ap (λ g. with_entry g e) view

    pub kept_entered : events ≡ s.events + length (events_of e) → 1 ≤ length (events_of e) → length (events_of e) < 2 ^ 32 → AreCounted (world_of f) (events_of e) → IsKept (record s { tape = tape; history = history; events = events })
    kept_entered counted some few accepted =
        let left = most-of-room s.tape (length head + length packet) fits in
        let all = subst (λ g. AreCounted (world_of g) (events_of e)) (sym view) accepted in
        kept_more s e (head ++ packet) octets range tape history events taped noted kept left counted some few all

-- ---- the oldest entries are dropped

module _ {A : Type 0} (s : Inside A) (count : ℕ) (tape : TapeContents) (taped : tape ≡ record s.tape { pieces = drop count s.tape.pieces }) where
  abbrev less : Inside A
  less = record s { tape = tape; first = s.first + count }

  module _ (kept : IsKept s) where
    released_more : released_count less ≡ released_count s + count
    released_more = omega (arith, kept.since)

    pub flown_less : flown_of less ≡ record (flown_of s) { released = released_count s + count }
    flown_less = λ i. flown_with s s.history.restored (taped i) (entries_read s.history.pieces) (released_more i)

    pub kept_less : count ≤ length s.tape.pieces → s.events < 2 ^ 63 → IsKept less
    kept_less there few =
        let pieces : tape.pieces ≡ drop count s.tape.pieces = ap (λ t. t.pieces) taped in
        let most : tape.most ≡ s.tape.most = ap (λ t. t.most) taped in
        record {
          named = kept.named;
          same = kept.same;
          based = kept.based;
          few = omega (arith, ap length pieces, length-drop count s.tape.pieces, kept.few, most);
          limit = omega (arith, kept.limit, most);
          held = pieces ∙ ap (drop count) kept.held ∙ drop-drop count (released_count s) s.history.pieces ∙ ap (λ n. drop n s.history.pieces) (sym released_more);
          since = omega (arith, kept.since);
          given = omega (arith, released_more, count_pieces s kept, there);
          octets = kept.octets;
          counted = kept.counted;
          numbered = kept.numbered ∙ ap (λ (w : World). w.events) (same_world (flown_of s) (flown_of less) refl refl);
          bounded = omega (arith, few);
          long = kept.long;
        }
