-- A record that was found in the slab of a table, and another one that is put in its place.
use Rattle.std.proofs.Common.{◌≡◌, ◌≤◌, ℕ, ◌+◌, List, [], length, count_by, get_or, is_some, Option, Some, None, refl, sym, ap, subst, ◌∙◌, arith}
use Rattle.std.specs.Prelude.{Vec, vec_capacity, vec_len}
use Rattle.std.specs.FinMap as map
use Rattle.slab.specs.Slab.{Slab, get, slab_len, with_value}
use Rattle.obcp_types.specs.declared.pending.Due.{Due}
use Rattle.ocp_table.specs.declared.table.TheConstants.{MAX_PROCEDURES, OUTBOX_PLACES}
use Rattle.ocp_table.specs.declared.answers.Extent.{Extent}
use Rattle.ocp_table.specs.declared.answers.Slice.{Slice}
use Rattle.ocp_table.specs.Slices.{IsSlice, Store, most_events}
use Rattle.ocp_table.specs.Records.{Rec, Records}
use Rattle.ocp_table.specs.Outbox.{places_in, HasPlaces}
use Rattle.ocp_table.specs.Effects.{Effect, records_by, records_with, outbox_by}
use Rattle.ocp_table.specs.Mirror.Contents.{IsUnder, IsHolding, IsStocked, contents}
use Rattle.ocp_table.proofs.ContentsLemmas.{slab_len-with_value}
use Rattle.ocp_table.proofs.Fitting.{fits_by, fits-with}
use Rattle.ocp_table.proofs.Rooms.{pendings-empty, place_there}

-- nothing is set if there is no record
pub unset : (m : Records) (id : ℕ) (set : Rec → Rec) → map.get m id ≡ None → m ≡ records_with (map.get m id) id set m
unset m id set none = ap (λ o. records_with o id set m) (sym none)

module _ {T : Type 0} (id_of : T → ℕ) (shown : T → Rec) (s : Slab T) (outbox : List Due) (key id : ℕ) (old : T) (found : IsUnder id_of shown s key id) (at : get s key ≡ Some old) (holding : IsHolding id_of shown s outbox) where
  -- its entry has its place
  pub place_at : length outbox + places_in (shown old) ≤ OUTBOX_PLACES
  place_at = place_there (contents id_of shown s) outbox id (shown old) holding.places (found.there old at)

  module _ (new : T) (same : id_of new ≡ id_of old) where
    -- the records after it
    pub records_at : (m : Records) → contents id_of shown s ≡ m → contents id_of shown (with_value s key new) ≡ map.insert m id (shown new)
    records_at m is = found.put new (same ∙ found.named old at) ∙ ap (λ x. map.insert x id (shown new)) is

    -- what is set
    pub set_at : (set : Rec → Rec) → shown new ≡ set (shown old) → contents id_of shown (with_value s key new) ≡ records_with (map.get (contents id_of shown s) id) id set (contents id_of shown s)
    set_at set is =
        records_at _ refl
        ∙ ap (map.insert (contents id_of shown s) id) is
        ∙ ap (λ o. records_with o id set (contents id_of shown s)) (sym (found.there old at))

    pub holds-set : (set : Rec → Rec) → shown new ≡ set (shown old) → ((r : Rec) → places_in (set r) ≡ places_in r) → IsHolding id_of shown (with_value s key new) outbox
    holds-set set is kept = record {
      sound = found.sound new (same ∙ found.named old at);
      places = fits-with (contents id_of shown s) _ outbox id set (set_at set is) kept holding.places;
    }

    -- an effect
    pub holds-by : (effect : Effect) (after : List Due) → contents id_of shown (with_value s key new) ≡ records_by effect (contents id_of shown s) → after ≡ outbox_by effect (contents id_of shown s) outbox → HasPlaces (records_by effect (contents id_of shown s)) (outbox_by effect (contents id_of shown s) outbox) → IsHolding id_of shown (with_value s key new) after
    holds-by effect after is files fits = record {
      sound = found.sound new (same ∙ found.named old at);
      places = fits_by (contents id_of shown s) _ outbox after effect is files fits;
    }

-- another record in the place of one leaves the spare executions
pub stocked-at : {T X Z : Type 0} (s : Slab T) (spares : Vec X Z) (key : ℕ) (old new : T) → get s key ≡ Some old → IsStocked s spares → IsStocked (with_value s key new) spares
stocked-at s spares key old new at stocked = record {
  all = omega (arith, stocked.all, slab_len-with_value (λ _. 0) (λ (x : _). x) s key old new at);
  room = stocked.room;
}

-- at first there is none
module _ {T : Type 0} (id_of : T → ℕ) (shown : T → Rec) where
  no_item : (i : ℕ) {r : T} → get_or [] i None ≡ Some r → ⊥
  no_item i e = cc

  holds-empty : (room : ℕ) (vacant : ℕ) → MAX_PROCEDURES ≤ room → IsHolding id_of shown (record { slots = []; vacant_key = vacant; capacity = room }) []
  holds-empty room vacant fits = record {
    sound = record { distinct = λ i j r q at_i at_j same. absurd (no_item i at_i); few = omega arith; room = fits };
    places = omega (arith, pendings-empty);
  }

  pub holds-none : (s : Slab T) (outbox : List Due) → s.slots ≡ [] → MAX_PROCEDURES ≤ s.capacity → outbox ≡ [] → IsHolding id_of shown s outbox
  holds-none s outbox none room nothing =
      subst (IsHolding id_of shown s) (sym nothing)
      (subst (λ (x : Slab T). IsHolding id_of shown x []) (ap (λ (xs : List (Option T)). record { slots = xs; vacant_key = s.vacant_key; capacity = s.capacity }) (sym none))
      (holds-empty s.capacity s.vacant_key room))

  pub contents-none : (s t : Slab T) → t ≡ s → s.slots ≡ [] → contents id_of shown t ≡ map.empty
  contents-none s t is none =
      ap (contents id_of shown) (is ∙ ap (λ (xs : List (Option T)). record { slots = xs; vacant_key = s.vacant_key; capacity = s.capacity }) none)

  -- and all executions are spare
  pub opened : {X Z : Type 0} (s t : Slab T) (outbox : List Due) (spares : Vec X Z) → t ≡ s → s.slots ≡ [] → MAX_PROCEDURES ≤ s.capacity → outbox ≡ [] → vec_len spares ≡ MAX_PROCEDURES → MAX_PROCEDURES ≤ vec_capacity spares → IsHolding id_of shown t outbox × IsStocked t spares
  opened s t outbox spares is none room nothing all fits =
      let empty : slab_len t ≡ 0 = ap slab_len is ∙ ap (count_by is_some) none in (
        subst (λ x. IsHolding id_of shown x outbox) (sym is) (holds-none s outbox none room nothing),
        record { all = omega (arith, empty, all); room = fits },
      )

-- a slice of a record is one of what the table holds under its id
pub slice_found : {T : Type 0} (id_of : T → ℕ) (shown : T → Rec) (s : Slab T) (key id : ℕ) → IsUnder id_of shown s key id → (old : T) → get s key ≡ Some old → (extent : Extent) (budget : ℕ) (outbox filed : List Due) (pool words : List ℕ) (slice : Slice) (r : Rec) → ((m : Records) → map.get m (id_of old) ≡ Some (shown old) → IsSlice (id_of old) (record { records = m; outbox = outbox; pool = pool }) (most_events extent (id_of old) (record { records = m; outbox = outbox; pool = pool }) budget) slice r filed words) → IsSlice id (record { records = contents id_of shown s; outbox = outbox; pool = pool }) (most_events extent id (record { records = contents id_of shown s; outbox = outbox; pool = pool }) budget) slice r filed words
slice_found id_of shown s key id found old at extent budget outbox filed pool words slice r sliced =
    let start : Store = record { records = contents id_of shown s; outbox = outbox; pool = pool } in
    subst (λ i. IsSlice i start (most_events extent i start budget) slice r filed words) (found.named old at)
    (sliced start.records (ap (map.get start.records) (found.named old at) ∙ found.there old at))
