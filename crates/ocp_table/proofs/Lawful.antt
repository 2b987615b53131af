-- What every directive does to the records, and what it leaves.
use Rattle.std.proofs.Common.{◌≡◌, ◌≢◌, ℕ, Bool, true, false, cond, is_some, List, [], Option, Some, None, inl, inr, refl, sym, ap, subst, ◌∙◌, arith, length}
use Rattle.std.specs.Prelude.{◌⊎◌}
use Rattle.std.specs.Ordering.{eq_by_cmp, nat_cmp}
use Rattle.std.specs.FinMap.{get, insert, remove, get-insert, get-remove}
use Rattle.std.specs.Cmp.{unsigned_tied, nat_cmp_total}
use Rattle.std.proofs.lemmas.Bool.{eqb-true}
use Rattle.std.proofs.lemmas.Bool.Decides.{nat_tests}
use Rattle.obcp_types.specs.declared.status.Status.{Status}
use Rattle.obcp_types.specs.declared.status.Status.TheVariants.{Inactive, Running, Held}
use Rattle.ocp_profile.specs.declared.profile.Profile.{Profile}
use Rattle.bpf_step.specs.Machine.{State, machine_at_start, machine_at_restart}
use Rattle.obcp_types.specs.declared.failure.StartFailure.{StartFailure}
use Rattle.ocp_table.specs.declared.answers.InstructionOutcome.{InstructionOutcome}
use Rattle.ocp_table.specs.Records.{Rec, Records}
use Rattle.ocp_table.specs.Effects.{Effect, Change, Changed, Kept, Failed, Loaded, Unloaded, Stepped, Started, Sent, Resumed, BreakSet, BreakCleared, TraceSet, record_by, new_record, with_change, records_by, failure_of}
use Rattle.ocp_table.specs.RequestTable.{Directive, Load, Unload, Activate, Step, transition}
use Rattle.ocp_table.specs.Deciding.{effect_by, effect_on, effect_in, is_full, status_of}
use Rattle.ocp_table.specs.Laws.{machine_of, run_of, IsKeptOrStarted, IsRestarted, IsRequest, IsDebugging, LeavesMachines}
use Rattle.ocp_table.proofs.Each.{each}

-- ---- the forms of effect, by what they do to machines

-- a directive fails, loads, drops, starts or steps, or it makes a change that leaves machines
machine_effects : (P : Directive → Effect → Type 0) (id : ℕ) (m : Records) → ((d : Directive) (failure : StartFailure) → P d (Kept (Failed failure))) → ((profile : Profile) (image : List ℕ) → P (Load profile image) (Loaded profile id image)) → P Unload (Unloaded id) → ((budget : ℕ) (arguments : List ℕ) → P (Activate budget arguments) (Changed id (Started budget arguments))) → ((d : Directive) (c : Change) → ((r : Rec) → (record_by c r).machine ≡ r.machine) → P d (Changed id c)) → ((pool : List ℕ) (outcome : InstructionOutcome) → P (Step pool) (Changed id (Stepped outcome))) → (d : Directive) → P d (effect_in d id m)
machine_effects P id m failed loaded unloaded started keeps stepped d =
    each P id (get m id) (is_full m) (record {
      failed = failed;
      loaded = λ profile image absent room. loaded profile image;
      unloaded = λ r here is. unloaded;
      started = λ budget arguments r here is. started budget arguments;
      sends = λ words r here fits. keeps _ (Sent words) (λ r. refl);
      stop_pends = λ s from r here is. keeps _ _ (λ r. refl);
      suspend_pends = λ s from r here is. keeps _ _ (λ r. refl);
      stopped = λ s from no_place r here is. keeps _ _ (λ r. refl);
      aborted = λ r here. keeps _ _ (λ r. refl);
      resumed = λ r here is. keeps _ Resumed (λ r. refl);
      stepped = λ pool outcome r here is done. stepped pool outcome;
    }) d

-- ---- every other record stays

with_change-other : (m : Records) (id : ℕ) (c : Change) (o : Option Rec) (other : ℕ) → eq_by_cmp nat_cmp other id ≡ false → get (with_change o id c m) other ≡ get m other
with_change-other m id c None other apart = refl
with_change-other m id c (Some r) other apart = get-insert nat_cmp_total m id (record_by c r) other ∙ ap (λ b. cond b (Some (record_by c r)) (get m other)) apart

pub others_stay : (d : Directive) (id other : ℕ) (m : Records) → other ≢ id → get (records_by (effect_in d id m) m) other ≡ get m other
others_stay d id other m differs =
    let apart : eq_by_cmp nat_cmp other id ≡ false = unsigned_tied other id ∙ grind (arith, nat_tests, differs) in
    let by : (c : Change) → get (with_change (get m id) id c m) other ≡ get m other = λ c. with_change-other m id c (get m id) other apart in
    machine_effects (λ d e. get (records_by e m) other ≡ get m other) id m (λ d failure. refl)
    (λ profile image. get-insert nat_cmp_total m id (new_record profile image) other ∙ ap (λ b. cond b (Some (new_record profile image)) (get m other)) apart)
    (get-remove nat_cmp_total m id other ∙ ap (λ b. cond b None (get m other)) apart)
    (λ budget arguments. by (Started budget arguments)) (λ d c kept. by c) (λ pool outcome. by (Stepped outcome)) d

-- ---- only a running procedure steps

still_of : (r : Rec) (id : ℕ) (full : Bool) (pool : List ℕ) (s : Status) → s ≢ Running → is_some (failure_of (effect_by (transition (Step pool) (Some s) r.control.pending (length r.mailbox)) id (Some r) full)) ≡ true
still_of r id full pool Inactive still = refl
still_of r id full pool Running still = absurd (still refl)
still_of r id full pool Held still = refl

pub still_fails : (id : ℕ) (o : Option Rec) (full : Bool) (pool : List ℕ) → status_of o ≢ Some Running → is_some (failure_of (effect_on (Step pool) id o full)) ≡ true
still_fails id None full pool still = refl
still_fails id (Some r) full pool still = still_of r id full pool r.control.status (λ is. still (ap Some is))

-- ---- a request keeps or starts machines

module _ (m : Records) (q : ℕ) where
  abbrev IsFit : Records → Type 0
  IsFit n = IsKeptOrStarted (machine_of (get m q)) (machine_of (get n q))

  same : IsFit m
  same machine is = inl is

  of_some : (a b : State) → Some a ≡ Some b → a ≡ b
  of_some a b e = cc

  -- what the law states of one machine
  abbrev Comes : State → Type 0
  Comes machine = (machine_of (get m q) ≡ Some machine) ⊎ (((profile : Profile) × (machine ≡ machine_at_start profile [])) ⊎ IsRestarted (machine_of (get m q)) machine)

  -- a record that is put in has a new machine
  put_new : (id : ℕ) (r : Rec) (profile : Profile) → r.machine ≡ machine_at_start profile [] → IsFit (insert m id r)
  put_new id r profile start machine is =
      elim (eq_by_cmp nat_cmp q id) as (λ b. machine_of (cond b (Some r) (get m q)) ≡ Some machine → Comes machine) [
        | true ↦ λ here. inr (inl (profile, sym (of_some r.machine machine here) ∙ start))
        | false ↦ λ here. inl here
      ] (sym (ap machine_of (get-insert nat_cmp_total m id r q)) ∙ is)

  -- a record that is put in has the machine that was there, restarted
  put_restarted : (id : ℕ) (r new : Rec) (arguments : List ℕ) → get m id ≡ Some r → new.machine ≡ machine_at_restart arguments r.machine → IsFit (insert m id new)
  put_restarted id r new arguments here start machine is =
      elim (eq_by_cmp nat_cmp q id) as (λ b. eq_by_cmp nat_cmp q id ≡ b → machine_of (cond b (Some new) (get m q)) ≡ Some machine → Comes machine) [
        | true ↦ λ at now.
            let before : machine_of (get m q) ≡ Some r.machine = ap (λ k. machine_of (get m k)) (eqb-true q id (sym (unsigned_tied q id) ∙ at)) ∙ ap machine_of here in
            inr (inr (subst (λ o. IsRestarted o machine) (sym before) (arguments, sym (of_some new.machine machine now) ∙ start)))
        | false ↦ λ at now. inl now
      ] refl (sym (ap machine_of (get-insert nat_cmp_total m id new q)) ∙ is)

  start_there : (id budget : ℕ) (arguments : List ℕ) (o : Option Rec) → get m id ≡ o → IsFit (with_change o id (Started budget arguments) m)
  start_there id budget arguments None is = same
  start_there id budget arguments (Some r) is = put_restarted id r (record_by (Started budget arguments) r) arguments is refl

  -- a record that is put in has the machine that was there
  put_same : (id : ℕ) (r new : Rec) → get m id ≡ Some r → new.machine ≡ r.machine → IsFit (insert m id new)
  put_same id r new here kept machine is =
      elim (eq_by_cmp nat_cmp q id) as (λ b. eq_by_cmp nat_cmp q id ≡ b → machine_of (cond b (Some new) (get m q)) ≡ Some machine → Comes machine) [
        | true ↦ λ at now. inl (ap (λ k. machine_of (get m k)) (eqb-true q id (sym (unsigned_tied q id) ∙ at)) ∙ ap machine_of here ∙ ap Some (sym kept) ∙ now)
        | false ↦ λ at now. inl now
      ] refl (sym (ap machine_of (get-insert nat_cmp_total m id new q)) ∙ is)

  keep_there : (id : ℕ) (c : Change) → ((r : Rec) → (record_by c r).machine ≡ r.machine) → (o : Option Rec) → get m id ≡ o → IsFit (with_change o id c m)
  keep_there id c kept None is = same
  keep_there id c kept (Some r) is = put_same id r (record_by c r) is (kept r)

  drop_there : (id : ℕ) → IsFit (remove m id)
  drop_there id machine is =
      elim (eq_by_cmp nat_cmp q id) as (λ b. machine_of (cond b None (get m q)) ≡ Some machine → Comes machine) [
        | true ↦ λ gone. absurd (cc)
        | false ↦ λ here. inl here
      ] (sym (ap machine_of (get-remove nat_cmp_total m id q)) ∙ is)

  pub kept_or_started : (d : Directive) (id : ℕ) → IsRequest d → IsFit (records_by (effect_in d id m) m)
  kept_or_started d id asked =
      machine_effects (λ d e. IsRequest d → IsFit (records_by e m)) id m (λ d failure a. same)
      (λ profile image a. put_new id (new_record profile image) profile refl) (λ a. drop_there id)
      (λ budget arguments a. start_there id budget arguments (get m id) refl)
      (λ d c kept a. keep_there id c kept (get m id) refl) (λ pool outcome a. absurd a) d asked

-- ---- a part of each record stays

module _ {X : Type 0} (part : Option Rec → X) (m : Records) (q : ℕ) where
  -- if a change leaves the part in every record
  part_stays : (id : ℕ) (c : Change) → ((r : Rec) → part (Some (record_by c r)) ≡ part (Some r)) → (o : Option Rec) → get m id ≡ o → part (get (with_change o id c m) q) ≡ part (get m q)
  part_stays id c kept None is = refl
  part_stays id c kept (Some r) is =
      ap part (get-insert nat_cmp_total m id (record_by c r) q)
      ∙ elim (eq_by_cmp nat_cmp q id) as (λ b. eq_by_cmp nat_cmp q id ≡ b → part (cond b (Some (record_by c r)) (get m q)) ≡ part (get m q)) [
        | true ↦ λ at. kept r ∙ ap part (sym is) ∙ ap (λ k. part (get m k)) (sym (eqb-true q id (sym (unsigned_tied q id) ∙ at)))
        | false ↦ λ at. refl
      ] refl

-- ---- what leaves machines and runs

pub machines_stay : (m : Records) (q : ℕ) (d : Directive) (id : ℕ) → LeavesMachines d → machine_of (get (records_by (effect_in d id m) m) q) ≡ machine_of (get m q)
machines_stay m q d id leaves =
    machine_effects (λ d e. LeavesMachines d → machine_of (get (records_by e m) q) ≡ machine_of (get m q)) id m (λ d failure a. refl)
    (λ profile image a. absurd a) (λ a. absurd a) (λ budget arguments a. absurd a)
    (λ d c kept a. part_stays machine_of m q id c (λ r. ap Some (kept r)) (get m id) refl) (λ pool outcome a. absurd a) d leaves

pub runs_stay : (m : Records) (q : ℕ) (c : Change) (id : ℕ) → IsDebugging c → run_of (get (records_by (Changed id c) m) q) ≡ run_of (get m q)
runs_stay m q (BreakSet place) id is = part_stays run_of m q id (BreakSet place) (λ r. refl) (get m id) refl
runs_stay m q (BreakCleared place) id is = part_stays run_of m q id (BreakCleared place) (λ r. refl) (get m id) refl
runs_stay m q (TraceSet on) id is = part_stays run_of m q id (TraceSet on) (λ r. refl) (get m id) refl
runs_stay m q c id is = absurd is
