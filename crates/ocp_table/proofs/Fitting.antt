-- The places of the outbox fit after each call of a table.
use Rattle.std.proofs.Common.{◌≡◌, ◌≤◌, ℕ, zero, suc, ◌+◌, List, [], ◌++◌, length, Option, Some, None, refl, sym, ap, subst, ◌∙◌, arith}
use Rattle.std.specs.FinMap as map
use Rattle.std.proofs.lemmas.List.{length-append}
use Rattle.obcp_types.specs.declared.pending.Due.{Due}
use Rattle.ocp_table.specs.declared.answers.InstructionOutcome.{InstructionOutcome}
use Rattle.ocp_table.specs.declared.answers.Slice.{Slice}
use Rattle.ocp_table.specs.declared.control.Pending.TheVariants as pending
use Rattle.ocp_table.specs.Records.{Rec, Records}
use Rattle.ocp_table.specs.Outbox.{places_of, places_in, pendings, HasPlaces}
use Rattle.ocp_table.specs.Effects.{Effect, Stepped, record_by, records_by, records_with, outbox_by, dues_by_outcome}
use Rattle.ocp_table.specs.RequestTable.{Step}
use Rattle.ocp_table.specs.Slices.{Store, store_after, store_after_events}
use Rattle.ocp_table.proofs.Totals.{of, total-insert}
use Rattle.ocp_table.proofs.Rooms.{pendings-empty, filed-fits}
use Rattle.ocp_table.proofs.Asked.{places-after}

-- ---- an event of a record

-- what it files had a place
pub event-fits : (outcome : InstructionOutcome) (r next : Rec) (outbox filed : List Due) → filed ≡ outbox ++ dues_by_outcome outcome r.control.pending → next ≡ record_by (Stepped outcome) r → length outbox + places_in r ≤ 64 → length filed + places_in next ≤ 64
event-fits outcome r next outbox filed files is fits =
    let fewer = filed-fits (Stepped outcome) r.control in
    let both : length filed ≡ length outbox + length (dues_by_outcome outcome r.control.pending) = ap length files ∙ length-append outbox (dues_by_outcome outcome r.control.pending) in
    let after : places_in next ≡ places_in (record_by (Stepped outcome) r) = ap places_in is in
    omega (arith, fewer, both, after, fits)

-- ---- calls of a table

pub fits_by : (m new : Records) (outbox after : List Due) (e : Effect) → new ≡ records_by e m → after ≡ outbox_by e m outbox → HasPlaces (records_by e m) (outbox_by e m outbox) → HasPlaces new after
fits_by m new outbox after e is files fits = subst (λ x. HasPlaces x after) (sym is) (subst (HasPlaces (records_by e m)) (sym files) fits)

pub fits-none : (m : Records) (outbox : List Due) → m ≡ map.empty → outbox ≡ [] → HasPlaces m outbox
fits-none m outbox is nothing =
    let places : pendings m ≡ 0 = ap pendings is ∙ pendings-empty in
    let waits : length outbox ≡ 0 = ap length nothing in
    omega (arith, places, waits)

-- a record in which nothing is pending is added
pub fits-inserted : (m new : Records) (outbox : List Due) (id : ℕ) (r : Rec) → new ≡ map.insert m id r → r.control.pending ≡ pending.Nothing → HasPlaces m outbox → HasPlaces new outbox
fits-inserted m new outbox id r is idle fits =
    let put = total-insert places_in m id r in
    let none : places_in r ≡ 0 = ap places_of idle in
    let after : pendings new ≡ pendings (map.insert m id r) = ap pendings is in
    omega (arith, put, none, after, fits)

pendings-with : (o : Option Rec) (id : ℕ) (set : Rec → Rec) (m : Records) → ((r : Rec) → places_in (set r) ≡ places_in r) → map.get m id ≡ o → pendings (records_with o id set m) ≡ pendings m
pendings-with None id set m same is = refl
pendings-with (Some r) id set m same is =
    let put = total-insert places_in m id (set r) in
    let there : of places_in (map.get m id) ≡ places_in r = ap (of places_in) is in
    let kept = same r in
    omega (arith, put, there, kept)

-- what is set leaves what is pending
pub fits-with : (m new : Records) (outbox : List Due) (id : ℕ) (set : Rec → Rec) → new ≡ records_with (map.get m id) id set m → ((r : Rec) → places_in (set r) ≡ places_in r) → HasPlaces m outbox → HasPlaces new outbox
fits-with m new outbox id set is same fits =
    let after : pendings new ≡ pendings m = ap pendings is ∙ pendings-with (map.get m id) id set m same refl in
    omega (arith, after, fits)

-- ---- slices

places_after_events : (id n : ℕ) (s : Store) → HasPlaces s.records s.outbox → HasPlaces (store_after_events id n s).records (store_after_events id n s).outbox
places_after_events id zero s fits = fits
places_after_events id (suc n) s fits = places_after_events id n (store_after id s) (places-after (Step s.pool) id s.records s.outbox fits tt)

pub fits-sliced : (slice : Slice) (id : ℕ) (s t : Store) → HasPlaces s.records s.outbox → store_after_events id slice.count s ≡ t → HasPlaces t.records t.outbox
fits-sliced slice id s t fits made = subst (λ x. HasPlaces x.records x.outbox) made (places_after_events id slice.count s fits)
