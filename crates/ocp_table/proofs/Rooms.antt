-- The places of the outbox: what waits to be reported and what is pending are at most 64 after each effect.
use Rattle.std.proofs.Common.{◌≡◌, ◌≤◌, ◌<◌, ℕ, ◌+◌, List, [], ◌∷◌, length, Option, Some, None, Bool, false, refl, sym, ◌∙◌, arith}
use Rattle.std.specs.List.{sum_by}
use Rattle.std.specs.FinMap.{get, empty, values}
use Rattle.std.proofs.lemmas.List.Sums.{sum_by-cons}
use Rattle.std.proofs.lemmas.Bool.{leb-false}
use Rattle.obcp_types.specs.declared.pending.PendingOrigin.{PendingOrigin}
use Rattle.obcp_types.specs.declared.pending.Due.{Due}
use Rattle.ocp_table.specs.declared.control.Control.{Control}
use Rattle.ocp_table.specs.declared.control.Pending.{Pending}
use Rattle.ocp_table.specs.declared.control.Pending.TheVariants as pending
use Rattle.ocp_table.specs.Records.{Rec, Records}
use Rattle.ocp_table.specs.Effects.{Change, Pended, Effect, Changed, control_by, records_by, dues_by_change, outbox_by}
use Rattle.ocp_table.specs.Outbox.{places_of, places_in, pendings, is_outbox_full}
use Rattle.ocp_table.specs.Shown.{HasPlaceFor}
use Rattle.ocp_table.proofs.Weighing.{entry, entry_in, waiting, waiting-empty, due, pended_by_change, pended_there, pended_by, moves, waiting-there, balance, files}

-- ---- each origin weighs one

abbrev one : PendingOrigin → ℕ
one from = 1

pub due-length : (ds : List Due) → due one ds ≡ length ds
due-length [] = refl
due-length (d ∷ ds) = let more = sum_by-cons (λ (x : Due). one x.origin) d ds in let rest = due-length ds in omega (arith, more, rest)

entry-places : (p : Pending) → entry one p ≡ places_of p
entry-places pending.Nothing = refl
entry-places (pending.Stop s from) = refl
entry-places (pending.Suspend s from) = refl

all_places : (rs : List Rec) → sum_by (entry_in one) rs ≡ sum_by places_in rs
all_places [] = refl
all_places (r ∷ rs) =
    let left = sum_by-cons (entry_in one) r rs in
    let right = sum_by-cons places_in r rs in
    let here = entry-places r.control.pending in
    let rest = all_places rs in
    omega (arith, left, right, here, rest)

pub waiting-pendings : (m : Records) → waiting one m ≡ pendings m
waiting-pendings m = all_places (values m)

pub pendings-empty : pendings empty ≡ 0
pendings-empty = sym (waiting-pendings empty) ∙ waiting-empty one

-- ---- one record that changes

-- what a change files had a place
pub filed-fits : (change : Change) (c : Control) → length (dues_by_change change c.pending) + places_of (control_by change c).pending ≤ places_of c.pending + pended_by_change one change
filed-fits change c =
    let moved = moves one change c in
    let filed = due-length (dues_by_change change c.pending) in
    let before = entry-places c.pending in
    let after = entry-places (control_by change c).pending in
    omega (arith, moved, filed, before, after)

-- the place of an entry is one of those that are counted
pub pendings-there : (m : Records) (id : ℕ) (r : Rec) → get m id ≡ Some r → places_in r ≤ pendings m
pendings-there m id r is =
    let there = waiting-there one m id r is in
    let same = waiting-pendings m in
    let here = entry-places r.control.pending in
    omega (arith, there, same, here)

-- one that is there has its place
pub place_there : (m : Records) (outbox : List Due) (id : ℕ) (r : Rec) → length outbox + pendings m ≤ 64 → get m id ≡ Some r → length outbox + places_in r ≤ 64
place_there m outbox id r fits is = let there = pendings-there m id r is in omega (arith, fits, there)

-- ---- effects

-- something becomes pending only if a place is free
abbrev pub IsRoomy : Bool → Effect → Type 0
IsRoomy full (Changed id change) = HasPlaceFor full change
IsRoomy full effect = Unit {0}

entry-small : (p : Pending) → entry one p ≤ 1
entry-small pending.Nothing = omega arith
entry-small (pending.Stop s from) = omega arith
entry-small (pending.Suspend s from) = omega arith

module _ (m : Records) (outbox : List Due) (fits : length outbox + pendings m ≤ 64) where
  free : is_outbox_full m outbox ≡ false → length outbox + pendings m < 64
  free is = leb-false 64 (length outbox + pendings m) is

  roomy_change : (o : Option Rec) (change : Change) → HasPlaceFor (is_outbox_full m outbox) change → length outbox + pendings m + pended_there one change o ≤ 64
  roomy_change None change is = omega (arith, fits)
  roomy_change (Some r) (Pended p) is = let room = free is in let small = entry-small p in omega (arith, room, small)
  roomy_change (Some r) change is = omega (arith, fits)

  roomy : (effect : Effect) → IsRoomy (is_outbox_full m outbox) effect → length outbox + pendings m + pended_by one effect m ≤ 64
  roomy (Changed id change) is = roomy_change (get m id) change is
  roomy effect is = omega (arith, fits)

  -- the places fit after an effect as they did before
  pub outbox_fits : (effect : Effect) → IsRoomy (is_outbox_full m outbox) effect → length (outbox_by effect m outbox) + pendings (records_by effect m) ≤ 64
  outbox_fits effect is =
      let moved = balance one effect m in
      let filed = files one effect m outbox in
      let before = due-length outbox in
      let after = due-length (outbox_by effect m outbox) in
      let old = waiting-pendings m in
      let new = waiting-pendings (records_by effect m) in
      let room = roomy effect is in
      omega (arith, moved, filed, before, after, old, new, room)
