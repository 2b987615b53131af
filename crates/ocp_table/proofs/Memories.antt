-- The machines of a table keep the addresses of its profile.
use Rattle.std.proofs.Common.{◌≡◌, ◌≤◌, ℕ, zero, suc, length, Bool, true, false, cond, List, Option, Some, None, refl, sym, subst, ◌∙◌}
use Rattle.std.specs.Ordering.{nat_cmp, eq_by_cmp}
use Rattle.std.specs.Cmp.{nat_cmp_total}
use Rattle.std.specs.FinMap as map
use Rattle.obcp_types.specs.declared.status.Status.{Status}
use Rattle.obcp_types.specs.declared.status.Status.TheVariants.{Inactive, Running, Held}
use Rattle.ocp_profile.specs.declared.profile.Profile.{Profile}
use Rattle.ocp_regions.specs.declared.regions.TheConstants.{ARGUMENT_OCTETS}
use Rattle.ocp_pool.specs.declared.call.Called.{Called as Call}
use Rattle.ocp_pool.specs.Call.{r0_of, r1_of}
use Rattle.bpf_step.specs.Machine.{State, Outcome, Next, Needs, NoInstruction, HasMemoryOf, machine_at_start, machine_at_restart}
use Rattle.bpf_step.specs.Calls.{state_after_engine_call}
use Rattle.bpf_step.specs.Step.{one_step}
use Rattle.ocp_table.specs.declared.answers.InstructionOutcome.{InstructionOutcome}
use Rattle.ocp_table.specs.declared.answers.InstructionOutcome.TheVariants.{Broke, Ran, Called, Ended, Faulted}
use Rattle.ocp_table.specs.Records.{Rec, Records}
use Rattle.ocp_table.specs.Effects.{Change, Started, Sent, Pended, Quit, Resumed, Stepped, BreakSet, BreakCleared, TraceSet, Effect, Changed, machine_after, machine_by_outcome, machine_by, record_by, records_by, records_with, with_change}
use Rattle.ocp_table.specs.RequestTable.{Step, transition}
use Rattle.ocp_table.specs.Deciding.{outcome_in, effect_of_step, effect_by, effect_in, effect_on, is_full}
use Rattle.ocp_table.specs.Slices.{Store, store_after, store_after_events}

-- ---- what the laws of machines say

abbrev pub Starts : Type 0
Starts = (profile : Profile) (before : List ℕ) → length before ≤ ARGUMENT_OCTETS → HasMemoryOf profile (machine_at_start profile before)

abbrev pub StartsAgain : Type 0
StartsAgain = (profile : Profile) (arguments : List ℕ) (s : State) → HasMemoryOf profile s → machine_at_restart arguments s ≡ machine_at_start profile arguments

abbrev pub Steps : Type 0
Steps = (profile : Profile) (image : List ℕ) (s t : State) → HasMemoryOf profile s → one_step image s ≡ Next t → HasMemoryOf profile t

abbrev pub Answers : Type 0
Answers = (profile : Profile) (s : State) (r0 : ℕ) (r1 : Option ℕ) → HasMemoryOf profile s → HasMemoryOf profile (state_after_engine_call s r0 r1)

module _ (profile : Profile) where
  abbrev pub IsOwn : State → Type 0
  IsOwn s = HasMemoryOf profile s

  abbrev pub AreOwn : Records → Type 0
  AreOwn m = (id : ℕ) (r : Rec) → map.get m id ≡ Some r → IsOwn r.machine

  -- ---- maps

  inserted_if : (b : Bool) (r x : Rec) (o : Option Rec) → IsOwn r.machine → ((y : Rec) → o ≡ Some y → IsOwn y.machine) → cond b (Some r) o ≡ Some x → IsOwn x.machine
  inserted_if true r x o own rest is = let same : r ≡ x = cc in subst (λ (y : Rec). IsOwn y.machine) same own
  inserted_if false r x o own rest is = rest x is

  pub own-inserted : (m : Records) (id : ℕ) (r : Rec) → AreOwn m → IsOwn r.machine → AreOwn (map.insert m id r)
  own-inserted m id r own is q x at = inserted_if (eq_by_cmp nat_cmp q id) r x (map.get m q) is (own q) (sym (map.get-insert nat_cmp_total m id r q) ∙ at)

  removed_if : (b : Bool) (x : Rec) (o : Option Rec) → ((y : Rec) → o ≡ Some y → IsOwn y.machine) → cond b None o ≡ Some x → IsOwn x.machine
  removed_if true x o rest is = absurd (cc)
  removed_if false x o rest is = rest x is

  pub own-removed : (m : Records) (id : ℕ) → AreOwn m → AreOwn (map.remove m id)
  own-removed m id own q x at = removed_if (eq_by_cmp nat_cmp q id) x (map.get m q) (own q) (sym (map.get-remove nat_cmp_total m id q) ∙ at)

  own_none : (q : ℕ) (x : Rec) → map.get (map.empty {X = Rec} {R = nat_cmp}) q ≡ Some x → IsOwn x.machine
  own_none q x at = let none : map.get (map.empty {X = Rec} {R = nat_cmp}) q ≡ None = map.get-empty nat_cmp q in absurd (cc)

  pub own-empty : (m : Records) → m ≡ map.empty → AreOwn m
  own-empty m is = subst AreOwn (sym is) own_none

  own_with : (m : Records) (o : Option Rec) (id : ℕ) (set : Rec → Rec) → AreOwn m → ((r : Rec) → o ≡ Some r → IsOwn (set r).machine) → AreOwn (records_with o id set m)
  own_with m None id set own kept = own
  own_with m (Some r) id set own kept = own-inserted m id (set r) own (kept r refl)

  -- what is set in a record leaves its machine one of the profile
  pub own-set : (m new : Records) (id : ℕ) (set : Rec → Rec) → new ≡ records_with (map.get m id) id set m → ((r : Rec) → map.get m id ≡ Some r → IsOwn (set r).machine) → AreOwn m → AreOwn new
  own-set m new id set is kept own = subst AreOwn (sym is) (own_with m (map.get m id) id set own kept)

  -- ---- requests

  -- the arguments fit, and no instruction is done
  abbrev pub IsFitted : Change → Type 0
  IsFitted (Started budget arguments) = length arguments ≤ ARGUMENT_OCTETS
  IsFitted (Stepped outcome) = ⊥
  IsFitted change = Unit {0}

  module _ (starts : Starts) (starts_again : StartsAgain) where
    by_change : (change : Change) (image : List ℕ) (s : State) → IsFitted change → IsOwn s → IsOwn (machine_by change image s)
    by_change (Started budget arguments) image s fits own = subst IsOwn (sym (starts_again profile arguments s own)) (starts profile arguments fits)
    by_change (Sent words) image s fits own = own
    by_change (Pended pending) image s fits own = own
    by_change (Quit cause) image s fits own = own
    by_change Resumed image s fits own = own
    by_change (Stepped outcome) image s fits own = absurd fits
    by_change (BreakSet place) image s fits own = own
    by_change (BreakCleared place) image s fits own = own
    by_change (TraceSet on) image s fits own = own

    own_changed : (m : Records) (o : Option Rec) (id : ℕ) (change : Change) → map.get m id ≡ o → IsFitted change → AreOwn m → AreOwn (with_change o id change m)
    own_changed m None id change is fits own = own
    own_changed m (Some r) id change is fits own = own-inserted m id (record_by change r) own (by_change change r.image r.machine fits (own id r is))

    pub own-changed : (m new : Records) (id : ℕ) (change : Change) → new ≡ records_by (Changed id change) m → IsFitted change → AreOwn m → AreOwn new
    own-changed m new id change is fits own = subst AreOwn (sym is) (own_changed m (map.get m id) id change refl fits own)

  -- ---- instruction events

  module _ (steps : Steps) (answers : Answers) where
    stepped_to : (image : List ℕ) (s : State) (o : Outcome) → one_step image s ≡ o → IsOwn s → IsOwn (machine_after o s)
    stepped_to image s (Next t) is own = steps profile image s t own is
    stepped_to image s (Needs need) is own = own
    stepped_to image s NoInstruction is own = own

    by_outcome : (outcome : InstructionOutcome) (image : List ℕ) (s : State) → IsOwn s → IsOwn (machine_by_outcome outcome image s)
    by_outcome Broke image s own = own
    by_outcome Ran image s own = stepped_to image s (one_step image s) refl own
    by_outcome (Called call) image s own = answers profile s (r0_of call) (r1_of call) own
    by_outcome Ended image s own = own
    by_outcome (Faulted fault) image s own = own

    of_outcome : (m : Records) (id : ℕ) (o : Option Rec) (outcome : InstructionOutcome) → map.get m id ≡ o → AreOwn m → AreOwn (with_change o id (Stepped outcome) m)
    of_outcome m id None outcome is own = own
    of_outcome m id (Some r) outcome is own = own-inserted m id (record_by (Stepped outcome) r) own (by_outcome outcome r.image r.machine (own id r is))

    of_step : (m : Records) (id : ℕ) (o : Option InstructionOutcome) → AreOwn m → AreOwn (records_by (effect_of_step o id) m)
    of_step m id (Some outcome) own = of_outcome m id (map.get m id) outcome refl own
    of_step m id None own = own

    of_status : (m : Records) (pool : List ℕ) (id : ℕ) (r : Rec) (s : Status) (full : Bool) → AreOwn m → AreOwn (records_by (effect_by (transition (Step pool) (Some s) r.control.pending (length r.mailbox)) id (Some r) full) m)
    of_status m pool id r Inactive full own = own
    of_status m pool id r Running full own = of_step m id (outcome_in r pool) own
    of_status m pool id r Held full own = own

    of_event : (m : Records) (pool : List ℕ) (id : ℕ) (o : Option Rec) (full : Bool) → AreOwn m → AreOwn (records_by (effect_on (Step pool) id o full) m)
    of_event m pool id None full own = own
    of_event m pool id (Some r) full own = of_status m pool id r r.control.status full own

    pub own-stepped : (m new : Records) (pool : List ℕ) (id : ℕ) → new ≡ records_by (effect_in (Step pool) id m) m → AreOwn m → AreOwn new
    own-stepped m new pool id is own = subst AreOwn (sym is) (of_event m pool id (map.get m id) (is_full m) own)

    own_after_events : (id n : ℕ) (s : Store) → AreOwn s.records → AreOwn (store_after_events id n s).records
    own_after_events id zero s own = own
    own_after_events id (suc n) s own = own_after_events id n (store_after id s) (of_event s.records s.pool id (map.get s.records id) (is_full s.records) own)

    pub own-sliced : (id n : ℕ) (s t : Store) → AreOwn s.records → store_after_events id n s ≡ t → AreOwn t.records
    own-sliced id n s t own made = subst (λ (x : Store). AreOwn x.records) made (own_after_events id n s own)
