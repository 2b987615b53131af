-- Whose turn is next, by the rows of all procedures, which rise by id.
use Rattle.std.proofs.Common.{◌≡◌, ◌+◌, ◌<◌, ◌≤◌, ◌↔◌, ℕ, suc, Bool, true, false, cond, List, [], ◌∷◌, ◌++◌, map, take, drop, length, get_or, Option, Some, None, refl, sym, ap, subst, ◌∙◌, arith}
use Rattle.std.specs.Prelude.{◌==◌, ◌&&◌, nat_le, IfSome, slice_index}
use Rattle.std.proofs.lemmas.Bool.{eqb-true}
use Rattle.std.proofs.lemmas.Bool.Decides.{nat_tests}
use Rattle.std.proofs.lemmas.List.{take_more, drop_more, take-append-drop}
use Rattle.std.specs.List.Sorted.{IsStrictlyIncreasing}
use Rattle.std.specs.Ordering.{nat_cmp}
use Rattle.std.specs.Cmp.{unsigned_tied}
use Rattle.std.specs.FinMap.{find, get, entries, get-entries}
use Rattle.obcp_types.specs.declared.status.StatusRow.{StatusRow}
use Rattle.ocp_table.specs.Records.{Rec, Records}
use Rattle.ocp_table.specs.Shown.{row_of}
use Rattle.ocp_world.specs.Slice.{is_running, is_running_status}
use Rattle.ocp_world.specs.NextRunning.{Runs, RunsAbove, IsLeast, IsLeastOf, IsNextRunning}
use Rattle.ocp_world.specs.Mirror.Turns.{runs_from, first_from, or_first, next_in}

-- ---- the walk over the rows

pub first_from-past : (from : ℕ) (xs ys : List StatusRow) → first_from from xs ≡ None → first_from from (xs ++ ys) ≡ first_from from ys
first_from-past from [] ys none = refl
first_from-past from (x ∷ xs) ys none =
    elim (runs_from from x) as (λ b. cond b (Some x.id) (first_from from xs) ≡ None → cond b (Some x.id) (first_from from (xs ++ ys)) ≡ first_from from ys) [
      | true ↦ λ is. absurd (cc)
      | false ↦ λ is. first_from-past from xs ys is
    ] none

module _ (from : ℕ) (rows : List StatusRow) (i : ℕ) (d : StatusRow) (within : i < length rows) (none : first_from from (take i rows) ≡ None) where
  abbrev row : StatusRow
  row = get_or rows i d

  -- one more row that is passed over
  pub passed : runs_from from row ≡ false → first_from from (take (i + 1) rows) ≡ None
  passed not =
      ap (first_from from) (take_more rows i d within) ∙ first_from-past from (take i rows) (row ∷ []) none
      ∙ ap (λ b. cond b (Some row.id) None) not

  -- the row at which the walk ends
  pub ended : runs_from from row ≡ true → Some row.id ≡ first_from from rows
  ended on =
      ap (λ b. cond b (Some row.id) (first_from from (drop (i + 1) rows))) (sym on)
      ∙ sym (first_from-past from (take i rows) (row ∷ drop (i + 1) rows) none)
      ∙ ap (λ xs. first_from from (take i rows ++ xs)) (sym (drop_more rows i d within))
      ∙ ap (first_from from) (take-append-drop i rows)

-- ---- the records by their entries

abbrev lookup : ℕ → List (ℕ × Rec) → Option Rec
lookup q [] = None
lookup q (e ∷ es) = cond (q == e.0) (Some e.1) (lookup q es)

find_is : (q : ℕ) (es : List (ℕ × Rec)) → find nat_cmp q es ≡ lookup q es
find_is q [] = refl
find_is q (e ∷ es) = ap (λ b. cond b (Some e.1) (find nat_cmp q es)) (unsigned_tied q e.0) ∙ ap (cond (q == e.0) (Some e.1)) (find_is q es)

-- each id is above the one before it
abbrev Rises : ℕ → List (ℕ × Rec) → Type 0
Rises n [] = Unit {0}
Rises n (e ∷ es) = (n ≤ e.0) × Rises (e.0 + 1) es

rises : (n : ℕ) (e : ℕ × Rec) (es : List (ℕ × Rec)) → n ≤ e.0 → IsStrictlyIncreasing (e.0 ∷ map (λ row. row.id) (map row_of es)) → Rises n (e ∷ es)
rises n e [] from h = (from, tt)
rises n e (f ∷ es) from h =
    let ids = map (λ row. row.id) (map row_of (f ∷ es)) in
    let first : e.0 < f.0 = h 0 (omega arith) in
    (from, rises (e.0 + 1) f es (omega (arith, first)) (λ k within. subst (λ j. slice_index ids k < slice_index (e.0 ∷ ids) j) (next k) (h (suc k) (omega (arith, within)))))
  where
    next : (k : ℕ) → suc k + 1 ≡ suc (k + 1)
    next k = omega arith

all_rise : (es : List (ℕ × Rec)) → IsStrictlyIncreasing (map (λ row. row.id) (map row_of es)) → Rises 0 es
all_rise [] h = tt
all_rise (e ∷ es) h = rises 0 e es (omega arith) h

-- ---- the first one is the least one

abbrev IsFrom : List (ℕ × Rec) → ℕ → ℕ → Type 0
IsFrom es from k = (is_running (lookup k es) ≡ true) × (from ≤ k)

-- what is found is not below the bound of the list
found_above : (n k : ℕ) (es : List (ℕ × Rec)) → Rises n es → is_running (lookup k es) ≡ true → n ≤ k
found_above n k [] rise runs = absurd (cc)
found_above n k (e ∷ es) rise runs =
    elim (k == e.0) as (λ b. (k == e.0) ≡ b → is_running (cond b (Some e.1) (lookup k es)) ≡ true → n ≤ k) [
      | true ↦ λ is on. omega (arith, rise.0, eqb-true k e.0 is)
      | false ↦ λ is on. let above : e.0 + 1 ≤ k = found_above (e.0 + 1) k es rise.1 on in omega (arith, rise.0, above)
    ] refl runs

least_alike : (P Q : ℕ → Type 0) → ((k : ℕ) → P k → Q k) → ((k : ℕ) → Q k → P k) → (o : Option ℕ) → IsLeastOf P o → IsLeastOf Q o
least_alike P Q there back None h = λ k q. h k (back k q)
least_alike P Q there back (Some id) h = record { holds = there id h.holds; least = λ other q. h.least other (back other q) }

not_itself : (k n : ℕ) → n + 1 ≤ k → (k == n) ≡ false
not_itself k n above = grind (arith, nat_tests)

itself : (k : ℕ) → (k == k) ≡ true
itself k = grind (arith, nat_tests)

from_le : (from k : ℕ) → nat_le from k ≡ true → from ≤ k
from_le from k is = grind (arith, nat_tests)

le_from : (from k : ℕ) → from ≤ k → nat_le from k ≡ true
le_from from k is = grind (arith, nat_tests)

both : (a b : Bool) → (a && b) ≡ true → (a ≡ true) × (b ≡ true)
both true true is = (refl, refl)
both true false is = absurd (cc)
both false b is = absurd (cc)

together : (a b : Bool) → a ≡ true → b ≡ true → (a && b) ≡ true
together a b x y = cc

module _ (from : ℕ) (e : ℕ × Rec) (es : List (ℕ × Rec)) (n : ℕ) (rise : Rises n (e ∷ es)) where
  here : runs_from from (row_of e) ≡ true → IsLeast (IsFrom (e ∷ es) from) e.0
  here is =
      let parts = both (is_running_status e.1.control.status) (nat_le from e.0) is in
      record {
        holds = (subst (λ b. is_running (cond b (Some e.1) (lookup e.0 es)) ≡ true) (sym (itself e.0)) parts.0, from_le from e.0 parts.1);
        least = λ other p. found_above e.0 other (e ∷ es) (omega arith, rise.1) p.0;
      }

  to_later : runs_from from (row_of e) ≡ false → (k : ℕ) → IsFrom (e ∷ es) from k → IsFrom es from k
  to_later not k p = (
    elim (k == e.0) as (λ b. (k == e.0) ≡ b → is_running (cond b (Some e.1) (lookup k es)) ≡ true → is_running (lookup k es) ≡ true) [
      | true ↦ λ is on. absurd (contrary (eqb-true k e.0 is) on)
      | false ↦ λ is on. on
    ] refl p.0,
    p.1,
  )
    where
      contrary : k ≡ e.0 → is_running_status e.1.control.status ≡ true → ⊥
      contrary is on =
          let all : runs_from from (row_of e) ≡ true = together (is_running_status e.1.control.status) (nat_le from e.0) on (le_from from e.0 (subst (λ j. from ≤ j) is p.1)) in
          cc

  from_later : (k : ℕ) → IsFrom es from k → IsFrom (e ∷ es) from k
  from_later k p = (subst (λ b. is_running (cond b (Some e.1) (lookup k es)) ≡ true) (sym (not_itself k e.0 (found_above (e.0 + 1) k es rise.1 p.0))) p.0, p.1)

first_least : (from n : ℕ) (es : List (ℕ × Rec)) → Rises n es → IsLeastOf (IsFrom es from) (first_from from (map row_of es))
first_least from n [] rise = λ k p. absurd (cc)
first_least from n (e ∷ es) rise =
    elim (runs_from from (row_of e)) as (λ b. runs_from from (row_of e) ≡ b → IsLeastOf (IsFrom (e ∷ es) from) (cond b (Some e.0) (first_from from (map row_of es)))) [
      | true ↦ λ is. here from e es n rise is
      | false ↦ λ is. least_alike (IsFrom es from) (IsFrom (e ∷ es) from) (from_later from e es n rise) (to_later from e es n rise is) (first_from from (map row_of es)) (first_least from (e.0 + 1) es rise.1)
    ] refl

-- ---- in the map

module _ (m : Records) (rising : IsStrictlyIncreasing (map (λ row. row.id) (map row_of (entries m)))) where
  looked_up : (k : ℕ) → get m k ≡ lookup k (entries m)
  looked_up k = get-entries m k ∙ find_is k (entries m)

  first_in : (from : ℕ) → IsLeastOf (λ k. Runs m k × (from ≤ k)) (first_from from (map row_of (entries m)))
  first_in from =
      least_alike (IsFrom (entries m) from) (λ k. Runs m k × (from ≤ k))
      (λ k p. (ap is_running (looked_up k) ∙ p.0, p.1))
      (λ k p. (ap is_running (sym (looked_up k)) ∙ p.0, p.1))
      (first_from from (map row_of (entries m))) (first_least from 0 (entries m) (all_rise (entries m) rising))

  first_of_all : IsLeastOf (Runs m) (first_from 0 (map row_of (entries m)))
  first_of_all = least_alike (λ k. Runs m k × (0 ≤ k)) (Runs m) (λ k p. p.0) (λ k p. (p, omega arith)) (first_from 0 (map row_of (entries m))) (first_in 0)

  first_above : (before : ℕ) → IsLeastOf (RunsAbove m before) (first_from (before + 1) (map row_of (entries m)))
  first_above before =
      least_alike (λ k. Runs m k × (before + 1 ≤ k)) (RunsAbove m before)
      (λ k p. record { runs = p.0; above = omega (arith, p.1) })
      (λ k p. (p.runs, omega (arith, p.above)))
      (first_from (before + 1) (map row_of (entries m))) (first_in (before + 1))

  after_one : (before : ℕ) (o : Option ℕ) → IsLeastOf (RunsAbove m before) o → IsNextRunning m (Some before) (or_first o (map row_of (entries m)))
  after_one before None h = record { above = λ k p. absurd (h k p); round = λ none. first_of_all }
  after_one before (Some id) h = record { above = λ k p. h; round = λ none. absurd (none id h.holds) }

  after_none : (o : Option ℕ) → IsLeastOf (Runs m) o → o ≡ first_from 0 (map row_of (entries m)) → IsNextRunning m None (or_first o (map row_of (entries m)))
  after_none None h is = first_of_all
  after_none (Some id) h is = h

  pub is_next : (before : Option ℕ) → IsNextRunning m before (next_in before (map row_of (entries m)))
  is_next None = after_none (first_from 0 (map row_of (entries m))) first_of_all refl
  is_next (Some before) = after_one before (first_from (before + 1) (map row_of (entries m))) (first_above before)

-- ---- what defines the next one

module _ (m : Records) (before id : ℕ) (is : IsNextRunning m (Some before) (Some id)) where
  not_stopped : is_running (get m id) ≡ false → ⊥
  not_stopped off =
      let none : (k : ℕ) → RunsAbove m before k → ⊥ = λ k p. contrary off (is.above k p).holds.runs in
      contrary off (is.round none).holds
    where
      contrary : {b : Bool} → b ≡ false → b ≡ true → ⊥
      contrary off on = cc

  runs_after : Runs m id
  runs_after =
      elim (is_running (get m id)) as (λ b. is_running (get m id) ≡ b → b ≡ true) [
        | true ↦ λ on. refl
        | false ↦ λ off. absurd (not_stopped off)
      ] refl

pub next_runs : (m : Records) (before next : Option ℕ) → IsNextRunning m before next → IfSome next (Runs m)
next_runs m None None is = tt
next_runs m None (Some id) is = is.holds
next_runs m (Some before) None is = tt
next_runs m (Some before) (Some id) is = runs_after m before id is

none_runs : (m : Records) (before : Option ℕ) → IsNextRunning m before None → (id : ℕ) → Runs m id → ⊥
none_runs m None is id runs = is id runs
none_runs m (Some before) is id runs = is.round (λ k p. is.above k p k p) id runs

is_none : (m : Records) (before next : Option ℕ) → IsNextRunning m before next → ((id : ℕ) → Runs m id → ⊥) → next ≡ None
is_none m before None is none = refl
is_none m before (Some id) is none = absurd (none id (next_runs m before (Some id) is))

pub none_next : (m : Records) (before next : Option ℕ) → IsNextRunning m before next → (next ≡ None) ↔ ((id : ℕ) → Runs m id → ⊥)
none_next m before next is = ((λ e. none_runs m before (subst (IsNextRunning m before) e is)), is_none m before next is)
