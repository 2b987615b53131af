-- A saved procedure without a fault: what the tests say.
use Rattle.std.proofs.Common.{◌≡◌, ◌≤◌, ◌<◌, ℕ, ◌+◌, length, Bool, true, false, List, [], ◌∷◌, map, Option, Some, None, refl, sym, ap, ◌∙◌, arith}
use Rattle.std.specs.Prelude.{◌==◌, ◌&&◌, ◌||◌, cond, not, nat_lt, if◌then◌else◌}
use Rattle.std.specs.Ordering.{nat_cmp}
use Rattle.std.specs.Cmp.{unsigned_tied}
use Rattle.std.specs.List.{list_all}
use Rattle.std.specs.FinMap as map
use Rattle.std.proofs.lemmas.Bool.Decides.{nat_tests}
use Rattle.std.proofs.lemmas.Bool.{ltb-false}
use Rattle.obcp_types.specs.declared.pending.Due.{Due}
use Rattle.ocp_pool.specs.declared.mailbox.TheConstants.{MAX_MAILBOX_WORDS}
use Rattle.ocp_table.specs.declared.record.TheConstants.{MAX_BREAKPOINTS}
use Rattle.ocp_table.specs.declared.saved.SavedFault.{SavedFault}
use Rattle.ocp_table.specs.declared.saved.SavedFault.TheVariants as fault
use Rattle.ocp_table.specs.declared.table.TheConstants.{OUTBOX_PLACES}
use Rattle.ocp_table.specs.Records.{Rec, Records, Procedures}
use Rattle.ocp_table.specs.Outbox.{places_in, pendings, HasPlaces}
use Rattle.ocp_table.specs.Deciding.{is_full}
use Rattle.ocp_table.specs.Shown.{row_of}
use Rattle.ocp_table.specs.Restoring.{is_above, lacks_places, pends_inactive, passes_unrun, has_needless_budget, rises, are_no_breakpoints, fault_of_table, fault_of_control, first_of}
use Rattle.ocp_table.proofs.Totals.{of, total-insert}

-- ---- tests

both : (a b : Bool) → (a && b) ≡ true → (a ≡ true) × (b ≡ true)
both true b is = (refl, is)
both false b is = absurd (cc)

negated : (b : Bool) → not b ≡ false → b ≡ true
negated true is = refl
negated false is = absurd (cc)

-- ---- faults

passed : (b : Bool) (f : SavedFault) (rest : Option SavedFault) → (if b then Some f else rest) ≡ None → (b ≡ false) × (rest ≡ None)
passed true f rest is = absurd (cc)
passed false f rest is = (refl, is)

pub first-none : (a b : Option SavedFault) → first_of a b ≡ None → (a ≡ None) × (b ≡ None)
first-none None b is = (refl, is)
first-none (Some f) b is = absurd (cc)

pub first-some : (a b c : Option SavedFault) (f : SavedFault) → first_of a b ≡ Some f → first_of a (first_of b c) ≡ Some f
first-some None None c f is = absurd (cc)
first-some None (Some g) c f is = is
first-some (Some g) b c f is = is

-- and what follows decides
pub first-last : (a b c : Option SavedFault) → first_of a b ≡ None → first_of a (first_of b c) ≡ c
first-last None None c is = refl
first-last None (Some g) c is = absurd (cc)
first-last (Some g) b c is = absurd (cc)

-- ---- the table and what requests set

pub record Passes (id : ℕ) (r : Rec) (t : Procedures) : Type 0 where
  pub room : is_full t.records ≡ false
  pub above : is_above id t.records ≡ true
  pub places : lacks_places t r.control.pending ≡ false
  pub breakpoints : length r.breakpoints ≤ MAX_BREAKPOINTS
  pub words : length r.mailbox ≤ MAX_MAILBOX_WORDS

few_breakpoints : (places : List ℕ) → are_no_breakpoints places ≡ false → length places ≤ MAX_BREAKPOINTS
few_breakpoints places is = ltb-false MAX_BREAKPOINTS (length places) (neither (nat_lt MAX_BREAKPOINTS (length places)) (not (rises places)) is)
  where
    neither : (a b : Bool) → (a || b) ≡ false → a ≡ false
    neither true b none = absurd (cc)
    neither false b none = refl

module _ (id : ℕ) (r : Rec) (t : Procedures) where
  abbrev after_order : Option SavedFault
  after_order = if lacks_places t r.control.pending then Some fault.Outbox else None

  abbrev after_full : Option SavedFault
  after_full = if not (is_above id t.records) then Some fault.Order else after_order

  abbrev after_breakpoints : Option SavedFault
  after_breakpoints = if nat_lt MAX_MAILBOX_WORDS (length r.mailbox) then Some fault.Mailbox else None

  abbrev after_budget : Option SavedFault
  after_budget = if are_no_breakpoints r.breakpoints then Some fault.Breakpoints else after_breakpoints

  abbrev after_pass : Option SavedFault
  after_pass = if has_needless_budget t.profile r.remaining then Some fault.Budget else after_budget

  abbrev after_pending : Option SavedFault
  after_pending = if passes_unrun r.control then Some fault.Pass else after_pass

  pub passes : first_of (fault_of_table id r.control.pending t) (fault_of_control t.profile r) ≡ None → Passes id r t
  passes is =
      let parts = first-none (fault_of_table id r.control.pending t) (fault_of_control t.profile r) is in
      let full = passed (is_full t.records) fault.TableFull after_full parts.0 in
      let order = passed (not (is_above id t.records)) fault.Order after_order full.1 in
      let outbox = passed (lacks_places t r.control.pending) fault.Outbox None order.1 in
      let pending = passed (pends_inactive r.control) fault.Pending after_pending parts.1 in
      let pass = passed (passes_unrun r.control) fault.Pass after_pass pending.1 in
      let budget = passed (has_needless_budget t.profile r.remaining) fault.Budget after_budget pass.1 in
      let breakpoints = passed (are_no_breakpoints r.breakpoints) fault.Breakpoints after_breakpoints budget.1 in
      let mailbox = passed (nat_lt MAX_MAILBOX_WORDS (length r.mailbox)) fault.Mailbox None breakpoints.1 in
      record {
        room = full.0;
        above = negated (is_above id t.records) order.0;
        places = outbox.0;
        breakpoints = few_breakpoints r.breakpoints breakpoints.0;
        words = ltb-false MAX_MAILBOX_WORDS (length r.mailbox) mailbox.0;
      }

-- ---- an identifier above all others is free

not_found : (es : List (ℕ × Rec)) (id : ℕ) → list_all (λ row. nat_lt row.id id) (map row_of es) ≡ true → map.find nat_cmp id es ≡ None
not_found [] id below = refl
not_found (e ∷ es) id below =
    let parts = both (nat_lt e.0 id) (list_all (λ row. nat_lt row.id id) (map row_of es)) below in
    let apart : (id == e.0) ≡ false = apart_by e.0 id parts.0 in
    ap (λ b. cond b (Some e.1) (map.find nat_cmp id es)) (unsigned_tied id e.0 ∙ apart) ∙ not_found es id parts.1
  where
    apart_by : (a b : ℕ) → nat_lt a b ≡ true → (b == a) ≡ false
    apart_by a b less = grind (arith, nat_tests)

pub free_above : (m : Records) (id : ℕ) → is_above id m ≡ true → map.get m id ≡ None
free_above m id above = map.get-entries m id ∙ not_found (map.entries m) id above

-- ---- a place for what is pending

pub fits-restored : (m new : Records) (outbox : List Due) (id : ℕ) (r : Rec) → new ≡ map.insert m id r → map.get m id ≡ None → nat_lt OUTBOX_PLACES (length outbox + pendings m + places_in r) ≡ false → HasPlaces new outbox
fits-restored m new outbox id r is free enough =
    let put = total-insert places_in m id r in
    let none : of places_in (map.get m id) ≡ 0 = ap (of places_in) free in
    let after : pendings new ≡ pendings (map.insert m id r) = ap pendings is in
    let few : length outbox + pendings m + places_in r ≤ OUTBOX_PLACES = ltb-false OUTBOX_PLACES (length outbox + pendings m + places_in r) enough in
    omega (arith, put, none, after, few)
