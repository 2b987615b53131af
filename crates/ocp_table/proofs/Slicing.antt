-- Slices, event by event and by stretches that a machine does by itself.
use Rattle.std.proofs.Common.{◌≡◌, ℕ, zero, suc, ◌+◌, ◌-◌, ◌<◌, ◌≤◌, Bool, true, false, cond, List, [], ◌++◌, length, Option, Some, None, refl, sym, ap, subst, ◌∙◌, add-one, arith}
use Rattle.std.proofs.Math.Nat.{zero-add, suc-add}
use Rattle.std.specs.Prelude.{◌==◌, ◌&&◌, option_and_then, is_some}
use Rattle.std.proofs.lemmas.Bool.Decides.{nat_tests}
use Rattle.std.proofs.lemmas.Option.{same_Some}
use Rattle.std.specs.Ordering.{nat_cmp, eq_by_cmp}
use Rattle.std.specs.Cmp.{nat_cmp_total, unsigned_tied}
use Rattle.std.specs.FinMap as map
use Rattle.obcp_types.specs.declared.status.Status.{Status}
use Rattle.obcp_types.specs.declared.status.Status.TheVariants.{Inactive, Running, Held}
use Rattle.obcp_types.specs.declared.failure.StartFailure.{StartFailure}
use Rattle.obcp_types.specs.declared.failure.StartFailure.TheVariants.{NotRunning}
use Rattle.bpf_step.specs.Machine.{State, Outcome, Next, Needs, NoInstruction}
use Rattle.bpf_step.specs.Step.{one_step}
use Rattle.bpf_step.specs.Runs.{next_of, breaks_at, local_next, local_run, local_count}
use Rattle.ocp_table.specs.declared.control.Control.{Control}
use Rattle.ocp_table.specs.declared.answers.StepOutcome.{StepOutcome}
use Rattle.ocp_table.specs.declared.answers.StepOutcome.TheVariants as S
use Rattle.ocp_table.specs.declared.answers.InstructionOutcome.{InstructionOutcome}
use Rattle.ocp_table.specs.declared.answers.InstructionOutcome.TheVariants.{Broke, Ran, Faulted}
use Rattle.ocp_table.specs.declared.fault.ProcedureFault.TheVariants.{BudgetSpent}
use Rattle.ocp_table.specs.Budgets.{one_less, less, is_spent, IsWithin}
use Rattle.ocp_table.specs.Records.{Execution, Rec, Records}
use Rattle.ocp_table.specs.Effects.{Effect, Changed, Kept, Stepped, Failed, without_pass, records_by, outbox_by, dues_of, pool_by, record_after, with_change, machine_after, step_outcome}
use Rattle.ocp_table.specs.RequestTable.{Step, transition}
use Rattle.ocp_table.specs.Deciding.{outcome_of, outcome_in, effect_in, effect_by, effect_on, effect_of_step, is_full}
use Rattle.ocp_table.specs.declared.record.Record.{Record}
use Rattle.ocp_table.specs.Shown.{record_of, effect_of_record, dues_of_effect}
use Rattle.obcp_types.specs.declared.pending.Due.{Due}
use Rattle.std.proofs.lemmas.List.{append-nil}
use Rattle.ocp_table.specs.declared.answers.Extent.{Extent}
use Rattle.ocp_table.specs.declared.answers.Extent.TheVariants as extents
use Rattle.ocp_table.specs.Slices.{IsSlice, Store, store_after, store_after_events, answer_to, effect_of_event, goes_on, is_running, is_running_status, is_on, slice_count, slice_last, control_after, with_machine, RunsBy, last_ran, Leads, EndNoStep, step_ended, step_at, round_budget, most_events, ends_with}
use Rattle.ocp_table.proofs.Budgets.{less-none, less-next, within-fewer, not-spent}
use Rattle.ocp_table.proofs.ContentsLemmas.{insert-same}
use Rattle.ocp_table.proofs.Tables.{absent-step, same_step, records_after_step, outbox_after_step}

-- ---- events one after another

events-on : (id n k : ℕ) (s : Store) → store_after_events id (n + k) s ≡ store_after_events id k (store_after_events id n s)
events-on id zero k s = rw zero-add refl
events-on id (suc n) k s = rw suc-add (events-on id n k (store_after id s))

-- no event
pub leads-none : (id : ℕ) (s : Store) (last : StepOutcome) → Leads id 0 s last s last
leads-none id s last = record {
  store = refl;
  count = λ b. let same : 0 + b ≡ b = omega arith in ap (slice_count id s) same ∙ sym (omega arith);
  outcome = λ b. let same : 0 + b ≡ b = omega arith in ap (slice_last id s last) same;
}

-- one event after which the slice goes on
pub leads-one : (id : ℕ) (s : Store) (last : StepOutcome) → goes_on id s ≡ true → Leads id 1 s last (store_after id s) (answer_to id s)
leads-one id s last on = record {
  store = refl;
  count = λ b. let more : 1 + b ≡ suc b = omega arith in
      ap (slice_count id s) more ∙ ap (λ t. cond t (suc (slice_count id (store_after id s) b)) 1) on ∙ omega arith;
  outcome = λ b. let more : 1 + b ≡ suc b = omega arith in
      ap (slice_last id s last) more ∙ ap (λ t. cond t (slice_last id (store_after id s) (answer_to id s) b) (answer_to id s)) on;
}

-- one stretch after another
pub leads-on : (id n k : ℕ) (s t u : Store) (a b c : StepOutcome) → Leads id n s a t b → Leads id k t b u c → Leads id (n + k) s a u c
leads-on id n k s t u a b c first more = record {
  store = events-on id n k s ∙ ap (store_after_events id k) first.store ∙ more.store;
  count = λ budget. let joined : n + k + budget ≡ n + (k + budget) = omega arith in
      ap (slice_count id s) joined ∙ first.count (k + budget) ∙ ap (λ x. n + x) (more.count budget) ∙ omega arith;
  outcome = λ budget. let joined : n + k + budget ≡ n + (k + budget) = omega arith in
      ap (slice_last id s a) joined ∙ first.outcome (k + budget) ∙ more.outcome budget;
}

-- ---- events that end no step

pub unended-none : (id : ℕ) (s : Store) → EndNoStep id 0 s
unended-none id s k low = absurd (omega (arith, low))

pub unended-one : (id : ℕ) (s : Store) → step_ended (effect_of_event id s) ≡ None → EndNoStep id 1 s
unended-one id s is zero low = is
unended-one id s is (suc k) low = absurd (omega (arith, low))

pub unended-on : (id n k : ℕ) (s t : Store) → store_after_events id n s ≡ t → EndNoStep id n s → EndNoStep id k t → EndNoStep id (n + k) s
unended-on id zero k s t at first more j low = subst (λ x. step_ended (effect_of_event id (store_after_events id j x)) ≡ None) (sym at) (more j (omega (arith, low)))
unended-on id (suc n) k s t at first more zero low = first zero (omega arith)
unended-on id (suc n) k s t at first more (suc j) low = unended-on id n k (store_after id s) t at (λ i under. first (suc i) (omega (arith, under))) more j (omega (arith, low))

-- they take as many from a round's budget
round_budget-on : (id n b : ℕ) (s : Store) → EndNoStep id n s → round_budget id s (n + b) ≡ n + round_budget id (store_after_events id n s) b
round_budget-on id zero b s still = let none : 0 + b ≡ b = omega arith in ap (round_budget id s) none ∙ omega arith
round_budget-on id (suc n) b s still =
    let more : suc n + b ≡ suc (n + b) = omega arith in
    let here : step_ended (effect_of_event id s) ≡ None = still zero (omega arith) in
    ap (round_budget id s) more
    ∙ ap (λ (o : Option ℕ). cond (is_some o) 1 (suc (round_budget id (store_after id s) (n + b)))) here
    ∙ ap (λ x. suc x) (round_budget-on id n b (store_after id s) (λ k under. still (suc k) (omega (arith, under))))
    ∙ omega arith

one_of : (b : Bool) (x : ℕ) → cond b 1 (suc x) ≡ suc (cond b 0 x)
one_of true x = refl
one_of false x = refl

-- the next event is within what is left
pub most-split : (extent : Extent) (id n budget : ℕ) (s : Store) → (extent ≡ extents.Round → EndNoStep id n s) → n < budget → (rest : ℕ) × (most_events extent id s budget ≡ n + suc rest)
most-split extents.Slice id n budget s still within = (budget - (n + 1), omega (arith, within))
most-split extents.Round id n budget s still within =
    let rest : ℕ = budget - (n + 1) in
    let split : budget ≡ n + suc rest = omega (arith, within) in
    let t : Store = store_after_events id n s in
    let ended : Bool = is_some (step_ended (effect_of_event id t)) in (
      cond ended 0 (round_budget id (store_after id t) rest),
      ap (round_budget id s) split ∙ round_budget-on id n (suc rest) s (still refl) ∙ ap (λ x. n + x) (one_of ended (round_budget id (store_after id t) rest)),
    )

-- all of the budget was used
pub most-whole : (extent : Extent) (id n : ℕ) (s : Store) → (extent ≡ extents.Round → EndNoStep id n s) → most_events extent id s n ≡ n
most-whole extents.Slice id n s still = refl
most-whole extents.Round id n s still =
    let all : n ≡ n + 0 = omega arith in
    ap (round_budget id s) all ∙ round_budget-on id n 0 s (still refl) ∙ omega arith

-- the next event ends a step
pub most-ended : (extent : Extent) (id n budget : ℕ) (s : Store) → extent ≡ extents.Round → EndNoStep id n s → n < budget → is_some (step_ended (effect_of_event id (store_after_events id n s))) ≡ true → most_events extent id s budget ≡ n + 1
most-ended extents.Slice id n budget s is still within some = absurd (cc)
most-ended extents.Round id n budget s is still within some =
    let rest : ℕ = budget - (n + 1) in
    let split : budget ≡ n + suc rest = omega (arith, within) in
    let t : Store = store_after_events id n s in
    ap (round_budget id s) split ∙ round_budget-on id n (suc rest) s still ∙ ap (λ b. n + cond b 1 (suc (round_budget id (store_after id t) rest))) some

-- the step that the last of them ends
pub step-none : (id n : ℕ) (s : Store) → EndNoStep id n s → step_at id n s ≡ None
step-none id zero s still = refl
step-none id (suc n) s still = still n (omega arith)

pub step-next : (id n : ℕ) (s : Store) → step_at id (n + 1) s ≡ step_ended (effect_of_event id (store_after_events id n s))
step-next id n s = ap (λ k. step_at id k s) (add-one n)

-- ---- the last event of a slice or a round

one_event : (id : ℕ) (s : Store) (rest : ℕ) → goes_on id s ≡ false → slice_count id s (suc rest) ≡ 1
one_event id s rest stops = ap (λ b. cond b (suc (slice_count id (store_after id s) rest)) 1) stops

answers_it : (id : ℕ) (s : Store) (last : StepOutcome) (rest : ℕ) → goes_on id s ≡ false → slice_last id s last (suc rest) ≡ answer_to id s
answers_it id s last rest stops = ap (λ b. cond b (slice_last id (store_after id s) (answer_to id s) rest) (answer_to id s)) stops

-- a budget of one event
only_event : (id : ℕ) (s : Store) → slice_count id s 1 ≡ 1
only_event id s = elim (goes_on id s) as (λ b. cond b (suc (slice_count id (store_after id s) 0)) 1 ≡ 1) [
  | true ↦ refl
  | false ↦ refl
]

only_answer : (id : ℕ) (s : Store) (last : StepOutcome) → slice_last id s last 1 ≡ answer_to id s
only_answer id s last = elim (goes_on id s) as (λ b. cond b (slice_last id (store_after id s) (answer_to id s) 0) (answer_to id s) ≡ answer_to id s) [
  | true ↦ refl
  | false ↦ refl
]

-- a slice or a round of this budget has n events, and this is its last outcome
pub record Comes (extent : Extent) (id budget : ℕ) (s : Store) (n : ℕ) (o : StepOutcome) : Type 0 where
  pub count : slice_count id s (most_events extent id s budget) ≡ n
  pub last : slice_last id s S.Ran (most_events extent id s budget) ≡ o

module _ (extent : Extent) (id n budget : ℕ) (s t : Store) (last : StepOutcome) (led : Leads id n s S.Ran t last) (still : extent ≡ extents.Round → EndNoStep id n s) where
  -- all of the budget was used
  pub comes-whole : n ≡ budget → Comes extent id budget s n last
  comes-whole used =
      let most = ap (most_events extent id s) (sym used) ∙ most-whole extent id n s still in
      let whole : n ≡ n + 0 = omega arith in
      record {
        count = ap (slice_count id s) (most ∙ whole) ∙ led.count 0 ∙ sym whole;
        last = ap (slice_last id s S.Ran) (most ∙ whole) ∙ led.outcome 0;
      }

  -- after the next event it does not go on
  pub comes-end : n < budget → goes_on id t ≡ false → Comes extent id budget s (n + 1) (answer_to id t)
  comes-end within stops =
      let split = most-split extent id n budget s still within in
      let rest = split.0 in
      record {
        count = ap (slice_count id s) split.1 ∙ led.count (suc rest) ∙ ap (λ x. n + x) (one_event id t rest stops);
        last = ap (slice_last id s S.Ran) split.1 ∙ led.outcome (suc rest) ∙ answers_it id t last rest stops;
      }

  -- the next event ends a step, and so a round
  pub comes-round : n < budget → extent ≡ extents.Round → is_some (step_ended (effect_of_event id t)) ≡ true → Comes extent id budget s (n + 1) (answer_to id t)
  comes-round within is some =
      let here = ap (λ x. is_some (step_ended (effect_of_event id x))) led.store ∙ some in
      let most = most-ended extent id n budget s is (still is) within here in
      record {
        count = ap (slice_count id s) most ∙ led.count 1 ∙ ap (λ x. n + x) (only_event id t);
        last = ap (slice_last id s S.Ran) most ∙ led.outcome 1 ∙ only_answer id t last;
      }

-- ---- one instruction that the machine does by itself

pub get-put : (m : Records) (id : ℕ) (r : Rec) → map.get (map.insert m id r) id ≡ Some r
get-put m id r =
    let same : eq_by_cmp nat_cmp id id ≡ true = unsigned_tied id id ∙ grind (arith, nat_tests) in
    map.get-insert nat_cmp_total m id r id ∙ ap (λ b. cond b (Some r) (map.get m id)) same

pub put-put : (m : Records) (id : ℕ) (r t : Rec) → map.insert (map.insert m id r) id t ≡ map.insert m id t
put-put m id r t = map.same_map nat_cmp_total map.nat_cmp-IsAntisymmetric _ _ (λ q.
    map.get-insert nat_cmp_total (map.insert m id r) id t q
    ∙ ap (λ o. cond (eq_by_cmp nat_cmp q id) (Some t) o) (map.get-insert nat_cmp_total m id r q)
    ∙ elim (eq_by_cmp nat_cmp q id) as (λ b. cond b (Some t) (cond b (Some r) (map.get m q)) ≡ cond b (Some t) (map.get m q)) [
      | true ↦ refl
      | false ↦ refl
    ]
    ∙ sym (map.get-insert nat_cmp_total m id t q))

-- a next state is an instruction that was run
ran_of : (o : Outcome) (s t : State) (pool mailbox : List ℕ) → next_of o ≡ Some t → (outcome_of o s pool mailbox ≡ Some Ran) × (machine_after o s ≡ t)
ran_of (Next u) s t pool mailbox h = (refl, same_Some u t h)
ran_of (Needs need) s t pool mailbox h = absurd (cc)
ran_of NoInstruction s t pool mailbox h = absurd (cc)

ran_in : (r : Rec) (pool : List ℕ) (t : State) → is_spent r.remaining ≡ false → local_next r.image r.breakpoints r.control.pass r.machine ≡ Some t → (outcome_in r pool ≡ Some Ran) × (machine_after (one_step r.image r.machine) r.machine ≡ t)
ran_in r pool t left h =
    elim (breaks_at r.control.pass r.breakpoints r.machine.place) as (λ b. cond b None (next_of (one_step r.image r.machine)) ≡ Some t → (cond {A = Option InstructionOutcome} b (Some Broke) (cond (is_spent r.remaining) (Some (Faulted BudgetSpent)) (outcome_of (one_step r.image r.machine) r.machine pool r.mailbox)) ≡ Some Ran) × (machine_after (one_step r.image r.machine) r.machine ≡ t)) [
      | true ↦ λ k. absurd (cc)
      | false ↦ λ k.
          let ran = ran_of (one_step r.image r.machine) r.machine t pool r.mailbox k in
          (ap (λ b. cond {A = Option InstructionOutcome} b (Some (Faulted BudgetSpent)) (outcome_of (one_step r.image r.machine) r.machine pool r.mailbox)) left ∙ ran.0, ran.1)
    ] h

-- the record after it
abbrev ran_on : Rec → State → Rec
ran_on r t = record {
  image = r.image;
  machine = t;
  mailbox = r.mailbox;
  control = without_pass r.control;
  breakpoints = r.breakpoints;
  traced = r.traced;
  remaining = one_less r.remaining;
}

module _ (m : Records) (outbox : List Due) (pool : List ℕ) (id : ℕ) where
  abbrev here : Store
  here = record { records = m; outbox = outbox; pool = pool }

  abbrev at : Rec → Store
  at r = record { records = map.insert m id r; outbox = outbox; pool = pool }

  abbrev by_effect : Effect → Store
  by_effect e = record { records = records_by e m; outbox = outbox_by e m outbox; pool = pool_by e pool }

  abbrev by_change : Option Rec → Store
  by_change o = record { records = with_change o id (Stepped Ran) m; outbox = outbox ++ dues_of (Stepped Ran) o; pool = pool }

  module _ (r : Rec) (t : State) (held : map.get m id ≡ Some r) (running : r.control.status ≡ Running) (left : is_spent r.remaining ≡ false) (next : local_next r.image r.breakpoints r.control.pass r.machine ≡ Some t) where
    effect_ran : effect_in (Step pool) id m ≡ Changed id (Stepped Ran)
    effect_ran =
        ap (λ o. effect_on (Step pool) id o (is_full m)) held
        ∙ ap (λ s. effect_by (transition (Step pool) (Some s) r.control.pending (length r.mailbox)) id (Some r) (is_full m)) running
        ∙ ap (λ o. effect_of_step o id) (ran_in r pool t left next).0

    pub unended_ran : EndNoStep id 1 here
    unended_ran = unended-one id here (ap step_ended effect_ran)

    store_ran : store_after id here ≡ at (ran_on r t)
    store_ran =
        ap by_effect effect_ran
        ∙ ap by_change held
        ∙ ap (λ x. record { records = map.insert m id (ran_on r x); outbox = outbox ++ []; pool = pool }) (ran_in r pool t left next).1
        ∙ ap (λ kept. record { records = map.insert m id (ran_on r t); outbox = kept; pool = pool }) (append-nil outbox)

    answer_ran : answer_to id here ≡ S.Ran
    answer_ran = ap step_outcome effect_ran

    goes_ran : goes_on id here ≡ true
    goes_ran =
        ap (λ a. cond (is_on a) (is_running (map.get (store_after id here).records id)) false) answer_ran
        ∙ ap (λ s. is_running (map.get (s.records) id)) store_ran
        ∙ ap is_running (get-put m id (ran_on r t))
        ∙ ap is_running_status running

    one_local : (last : StepOutcome) → Leads id 1 here last (at (ran_on r t)) S.Ran
    one_local last = subst (λ o. Leads id 1 here last (at (ran_on r t)) o) answer_ran (subst (λ s. Leads id 1 here last s (answer_to id here)) store_ran (leads-one id here last goes_ran))

-- ---- a stretch of them

pass_after : (n : ℕ) (c : Control) → (control_after n c).pass ≡ (c.pass && (n == 0))
pass_after zero c = elim c.pass as (λ b. b ≡ (b && true)) [
  | true ↦ refl
  | false ↦ refl
]
pass_after (suc n) c =
    let off : (suc n == 0) ≡ false = grind (arith, nat_tests) in
    sym (ap (λ b. c.pass && b) off ∙ elim c.pass as (λ b. (b && false) ≡ false) [
      | true ↦ refl
      | false ↦ refl
    ])

status_after : (n : ℕ) (c : Control) → (control_after n c).status ≡ c.status
status_after zero c = refl
status_after (suc n) c = refl

passed_after : (n : ℕ) (c : Control) → without_pass (control_after n c) ≡ without_pass c
passed_after zero c = refl
passed_after (suc n) c = refl

module _ (m : Records) (outbox : List Due) (pool : List ℕ) (id : ℕ) (r : Rec) (held : map.get m id ≡ Some r) (running : r.control.status ≡ Running) (last : StepOutcome) where
  abbrev ran_for : ℕ → Option State
  ran_for n = local_run r.image r.breakpoints r.control.pass r.machine n

  abbrev after : ℕ → State → Store
  after n t = record { records = map.insert m id (with_machine n t r); outbox = outbox; pool = pool }

  one_more : (n : ℕ) (s t : State) → IsWithin r.remaining (suc n) → local_next r.image r.breakpoints (r.control.pass && (n == 0)) s ≡ Some t → Leads id 1 (after n s) (last_ran n last) (after (suc n) t) S.Ran
  one_more n s t inside next =
      let q = with_machine n s r in
      let led : Leads id 1 (after n s) (last_ran n last) (record { records = map.insert (map.insert m id q) id (ran_on q t); outbox = outbox; pool = pool }) S.Ran =
      one_local (map.insert m id q) outbox pool id q t (get-put m id q) (status_after n r.control ∙ running) (not-spent r.remaining n inside) (ap (λ b. local_next r.image r.breakpoints b s) (pass_after n r.control) ∙ next) (last_ran n last) in
      let same : map.insert (map.insert m id q) id (ran_on q t) ≡ map.insert m id (with_machine (suc n) t r) =
      put-put m id q (ran_on q t)
      ∙ ap (λ c. map.insert m id (record { image = r.image; machine = t; mailbox = r.mailbox; control = c; breakpoints = r.breakpoints; traced = r.traced; remaining = one_less (less n r.remaining) })) (passed_after n r.control)
      ∙ ap (λ o. map.insert m id (record { image = r.image; machine = t; mailbox = r.mailbox; control = without_pass r.control; breakpoints = r.breakpoints; traced = r.traced; remaining = o })) (less-next n r.remaining) in
      subst (λ x. Leads id 1 (after n s) (last_ran n last) (record { records = x; outbox = outbox; pool = pool }) S.Ran) same led

  pub local_leads : (n : ℕ) (t : State) → IsWithin r.remaining n → ran_for n ≡ Some t → Leads id n (record { records = m; outbox = outbox; pool = pool }) last (after n t) (last_ran n last)
  local_leads zero t inside h =
      let same : map.insert m id (with_machine 0 t r) ≡ m =
      ap (λ x. map.insert m id (with_machine 0 x r)) (sym (same_Some r.machine t h))
      ∙ ap (λ o. map.insert m id (record { image = r.image; machine = r.machine; mailbox = r.mailbox; control = r.control; breakpoints = r.breakpoints; traced = r.traced; remaining = o })) (less-none r.remaining)
      ∙ insert-same m id r held in
      subst (λ x. Leads id 0 (record { records = m; outbox = outbox; pool = pool }) last (record { records = x; outbox = outbox; pool = pool }) last) (sym same) (leads-none id (record { records = m; outbox = outbox; pool = pool }) last)
  local_leads (suc n) t inside h =
      let fewer : n ≤ suc n = omega arith in
      elim (ran_for n) as (λ o. ran_for n ≡ o → option_and_then (local_next r.image r.breakpoints (r.control.pass && (n == 0))) o ≡ Some t → Leads id (suc n) (record { records = m; outbox = outbox; pool = pool }) last (after (suc n) t) S.Ran) [
        | None ↦ λ is k. absurd (cc)
        | Some s ↦ λ is k. subst (λ x. Leads id x (record { records = m; outbox = outbox; pool = pool }) last (after (suc n) t) S.Ran) (add-one n)
            (leads-on id n 1 (record { records = m; outbox = outbox; pool = pool }) (after n s) (after (suc n) t) last (last_ran n last) S.Ran (local_leads n s (within-fewer r.remaining n (suc n) fewer inside) is) (one_more n s t inside k))
      ] refl h

  one_more_unended : (n : ℕ) (s t : State) → IsWithin r.remaining (suc n) → local_next r.image r.breakpoints (r.control.pass && (n == 0)) s ≡ Some t → EndNoStep id 1 (after n s)
  one_more_unended n s t inside next =
      let q = with_machine n s r in
      unended_ran (map.insert m id q) outbox pool id q t (get-put m id q) (status_after n r.control ∙ running) (not-spent r.remaining n inside) (ap (λ b. local_next r.image r.breakpoints b s) (pass_after n r.control) ∙ next)

  pub local_unended : (n : ℕ) (t : State) → IsWithin r.remaining n → ran_for n ≡ Some t → EndNoStep id n (record { records = m; outbox = outbox; pool = pool })
  local_unended zero t inside h = unended-none id (record { records = m; outbox = outbox; pool = pool })
  local_unended (suc n) t inside h =
      let fewer : n ≤ suc n = omega arith in
      let start : Store = record { records = m; outbox = outbox; pool = pool } in
      elim (ran_for n) as (λ o. ran_for n ≡ o → option_and_then (local_next r.image r.breakpoints (r.control.pass && (n == 0))) o ≡ Some t → EndNoStep id (suc n) start) [
        | None ↦ λ is k. absurd (cc)
        | Some s ↦ λ is k. subst (λ x. EndNoStep id x start) (add-one n)
            (unended-on id n 1 start (after n s) (local_leads n s (within-fewer r.remaining n (suc n) fewer inside) is).store
            (local_unended n s (within-fewer r.remaining n (suc n) fewer inside) is) (one_more_unended n s t inside k))
      ] refl h

pub local_events : (m : Records) (outbox : List Due) (pool : List ℕ) (id n : ℕ) (r : Rec) (t : State) (last : StepOutcome) → RunsBy m id r n t → Leads id n (record { records = m; outbox = outbox; pool = pool }) last (record { records = map.insert m id (with_machine n t r); outbox = outbox; pool = pool }) (last_ran n last)
local_events m outbox pool id n r t last is = local_leads m outbox pool id r is.held is.running last n t is.within is.ran

-- a count is within its budget
pub local_count_within : (image breakpoints : List ℕ) (pass : Bool) (s : State) (budget : ℕ) → local_count image breakpoints pass s budget ≤ budget
local_count_within image breakpoints pass s zero = omega arith
local_count_within image breakpoints pass s (suc n) =
    elim (is_some (local_run image breakpoints pass s (suc n))) as (λ b. cond b (suc n) (local_count image breakpoints pass s n) ≤ suc n) [
      | true ↦ omega arith
      | false ↦ omega (arith, local_count_within image breakpoints pass s n)
    ]

-- ---- a slice of a record

pub running_is : (s : Status) → is_running_status s ≡ true → s ≡ Running
running_is Inactive h = absurd (cc)
running_is Running h = refl
running_is Held h = absurd (cc)

pub ran_some : (n : ℕ) (last : StepOutcome) → 1 ≤ n → last_ran n last ≡ S.Ran
ran_some zero last h = absurd (omega (arith, h))
ran_some (suc n) last h = refl

-- the control after a stretch, by its pass flag
control_on : (k : ℕ) (c : Control) (pass : Bool) → pass ≡ (c.pass && (k == 0)) → record c { pass = pass } ≡ control_after k c
control_on k c pass is = λ i. record (kept i) { pass = (is ∙ sym (pass_after k c)) i }
  where
    kept : record c { pass = false } ≡ record (control_after k c) { pass = false }
    kept = sym (passed_after k c)

module _ {A : Type 0} where
  -- n events are made, and the slice or round goes on
  pub record IsSliced (extent : Extent) (old now : Record A) (outbox filed : List Due) (pool left : List ℕ) (n : ℕ) (last : StepOutcome) : Type 0 where
    pub running : now.control.status ≡ Running
    pub named : now.id ≡ old.id
    pub leads : (m : Records) → map.get m old.id ≡ Some (record_of old) → Leads old.id n (record { records = m; outbox = outbox; pool = pool }) S.Ran (record { records = map.insert m old.id (record_of now); outbox = filed; pool = left }) last
    pub unended : (m : Records) → map.get m old.id ≡ Some (record_of old) → extent ≡ extents.Round → EndNoStep old.id n (record { records = m; outbox = outbox; pool = pool })

  pub sliced-none : (extent : Extent) (r : Record A) (outbox : List Due) (pool : List ℕ) → r.control.status ≡ Running → IsSliced extent r r outbox outbox pool pool 0 S.Ran
  sliced-none extent r outbox pool running = record {
    running = running;
    named = refl;
    leads = λ m held. subst (λ x. Leads r.id 0 (record { records = m; outbox = outbox; pool = pool }) S.Ran (record { records = x; outbox = outbox; pool = pool }) S.Ran) (sym (insert-same m r.id (record_of r) held)) (leads-none r.id (record { records = m; outbox = outbox; pool = pool }) S.Ran);
    unended = λ m held is. unended-none r.id (record { records = m; outbox = outbox; pool = pool });
  }

  -- a record with what a stretch writes: its execution, the pass flag, and what is left of the budget
  abbrev pub with_stretch : Record A → Execution → Bool → Option ℕ → Record A
  with_stretch r execution pass remaining = record r {
    control = record r.control { pass = pass };
    remaining = remaining;
    execution = execution;
  }

  -- a stretch, as the call ensures it
  pub record IsStretch (now : Record A) (breakpoints : List ℕ) (execution : Execution) (pass : Bool) (remaining : Option ℕ) (k : ℕ) : Type 0 where
    pub places : breakpoints ≡ now.breakpoints.items
    pub ran : local_run now.execution.image breakpoints now.control.pass now.execution.machine k ≡ Some execution.machine
    pub within : IsWithin now.remaining k
    pub image : execution.image ≡ now.execution.image
    pub passed : pass ≡ (now.control.pass && (k == 0))
    pub taken : remaining ≡ less k now.remaining

  record_on : (now : Record A) (breakpoints : List ℕ) (execution : Execution) (pass : Bool) (remaining : Option ℕ) (k : ℕ) → IsStretch now breakpoints execution pass remaining k → record_of (with_stretch now execution pass remaining) ≡ with_machine k execution.machine (record_of now)
  record_on now breakpoints execution pass remaining k stretch =
      let control = control_on k now.control pass stretch.passed in
      λ i. record (record_of now) { image = stretch.image i; machine = execution.machine; control = control i; remaining = stretch.taken i }

  -- a stretch that the machine does by itself
  pub sliced-run : (extent : Extent) (old now : Record A) (outbox filed : List Due) (pool left : List ℕ) (n : ℕ) (last : StepOutcome) (breakpoints : List ℕ) (execution : Execution) (pass : Bool) (remaining : Option ℕ) (k : ℕ) → IsSliced extent old now outbox filed pool left n last → IsStretch now breakpoints execution pass remaining k → IsSliced extent old (with_stretch now execution pass remaining) outbox filed pool left (n + k) (last_ran k last)
  sliced-run extent old now outbox filed pool left n last breakpoints execution pass remaining k so_far stretch =
      let ran = subst (λ places. local_run now.execution.image places now.control.pass now.execution.machine k ≡ Some execution.machine) stretch.places stretch.ran in
      record {
        running = so_far.running;
        named = so_far.named;
        leads = λ m held.
            let id = old.id in
            let t = execution.machine in
            let held_now = get-put m id (record_of now) in
            let on = local_leads (map.insert m id (record_of now)) filed left id (record_of now) held_now so_far.running last k t stretch.within ran in
            let same_records : map.insert (map.insert m id (record_of now)) id (with_machine k t (record_of now)) ≡ map.insert m id (record_of (with_stretch now execution pass remaining)) =
            put-put m id (record_of now) (with_machine k t (record_of now)) ∙ ap (map.insert m id) (sym (record_on now breakpoints execution pass remaining k stretch)) in
            leads-on id n k _ _ _ S.Ran last (last_ran k last) (so_far.leads m held)
            (subst (λ x. Leads id k (record { records = map.insert m id (record_of now); outbox = filed; pool = left }) last (record { records = x; outbox = filed; pool = left }) (last_ran k last)) same_records on);
        unended = λ m held is.
            let id = old.id in
            unended-on id n k _ _ (so_far.leads m held).store (so_far.unended m held is)
            (local_unended (map.insert m id (record_of now)) filed left id (record_of now) (get-put m id (record_of now)) so_far.running last k execution.machine stretch.within ran);
      }

  -- one event, as the call ensures it
  pub record IsEvent (now next : Record A) (outbox filed : List Due) (pool left : List ℕ) (o : StepOutcome) (step : Option ℕ) : Type 0 where
    pub answer : o ≡ step_outcome (effect_of_record (Step pool) now)
    pub ended : step ≡ step_ended (effect_of_record (Step pool) now)
    pub made : record_of next ≡ record_after (effect_of_record (Step pool) now) (record_of now)
    pub filed_is : filed ≡ outbox ++ dues_of_effect (effect_of_record (Step pool) now) now.control.pending
    pub pooled : left ≡ pool_by (effect_of_record (Step pool) now) pool
    pub same : next.id ≡ now.id

  module _ (now next : Record A) (outbox filed : List Due) (pool left : List ℕ) (o : StepOutcome) (step : Option ℕ) (event : IsEvent now next outbox filed pool left o step) (m : Records) (id : ℕ) (held : map.get m id ≡ Some (record_of now)) (named : now.id ≡ id) where
    store_event : store_after id (record { records = m; outbox = outbox; pool = pool }) ≡ record { records = map.insert m id (record_of next); outbox = filed; pool = left }
    store_event =
        let records = sym (records_after_step pool m now.id id (record_of now) (record_of next) held named event.made) in
        let pools = ap (λ e. pool_by e pool) (sym (same_step pool m now.id id (record_of now) held named)) ∙ sym event.pooled in
        let outboxes = sym (event.filed_is ∙ outbox_after_step pool m now.id id (record_of now) outbox held named) in
        λ i. record { records = records i; outbox = outboxes i; pool = pools i }

    answer_event : answer_to id (record { records = m; outbox = outbox; pool = pool }) ≡ o
    answer_event = ap step_outcome (sym (same_step pool m now.id id (record_of now) held named)) ∙ sym event.answer

    step_event : step_ended (effect_of_event id (record { records = m; outbox = outbox; pool = pool })) ≡ step
    step_event = ap step_ended (sym (same_step pool m now.id id (record_of now) held named)) ∙ sym event.ended

    goes_event : goes_on id (record { records = m; outbox = outbox; pool = pool }) ≡ cond (is_on o) (is_running_status next.control.status) false
    goes_event =
        ap (λ a. cond (is_on a) (is_running (map.get (store_after id (record { records = m; outbox = outbox; pool = pool })).records id)) false) answer_event
        ∙ ap (λ s. cond (is_on o) (is_running (map.get s.records id)) false) store_event
        ∙ ap (λ x. cond (is_on o) (is_running x) false) (get-put m id (record_of next))

  module _ (extent : Extent) (old now next : Record A) (outbox due filed : List Due) (pool before left : List ℕ) (n : ℕ) (last o : StepOutcome) (step : Option ℕ) (so_far : IsSliced extent old now outbox due pool before n last) (event : IsEvent now next due filed before left o step) where
    runs_on : (b r : Bool) → cond b r false ≡ true → r ≡ true
    runs_on true r h = h
    runs_on false r h = absurd (cc)

    -- the event in the middle of the slice
    abbrev start : Records → Store
    start m = record { records = m; outbox = outbox; pool = pool }

    abbrev there : Records → Store
    there m = record { records = map.insert m old.id (record_of now); outbox = due; pool = before }

    abbrev after_it : Records → Store
    after_it m = record { records = map.insert m old.id (record_of next); outbox = filed; pool = left }

    module _ (m : Records) (held : map.get m old.id ≡ Some (record_of old)) where
      abbrev q : Records
      q = map.insert m old.id (record_of now)

      held_now : map.get q old.id ≡ Some (record_of now)
      held_now = get-put m old.id (record_of now)

      goes_there : goes_on old.id (there m) ≡ cond (is_on o) (is_running_status next.control.status) false
      goes_there = goes_event now next due filed before left o step event q old.id held_now so_far.named

      answer_there : answer_to old.id (there m) ≡ o
      answer_there = answer_event now next due filed before left o step event q old.id held_now so_far.named

      store_there : store_after old.id (there m) ≡ after_it m
      store_there = store_event now next due filed before left o step event q old.id held_now so_far.named ∙ ap (λ x. record { records = x; outbox = filed; pool = left }) (put-put m old.id (record_of now) (record_of next))

      -- the step that it ends
      step_there : step_ended (effect_of_event old.id (there m)) ≡ step
      step_there = step_event now next due filed before left o step event q old.id held_now so_far.named

      step_here : step_ended (effect_of_event old.id (store_after_events old.id n (start m))) ≡ step
      step_here = ap (λ s. step_ended (effect_of_event old.id s)) (so_far.leads m held).store ∙ step_there

      pub sliced-step : step ≡ step_at old.id (n + 1) (start m)
      sliced-step = sym (step-next old.id n (start m) ∙ step_here)

      ended_store : store_after_events old.id (n + 1) (start m) ≡ after_it m
      ended_store = events-on old.id n 1 (start m) ∙ ap (store_after old.id) (so_far.leads m held).store ∙ store_there

      ended_slice : (budget : ℕ) → Comes extent old.id budget (start m) (n + 1) (answer_to old.id (there m)) → IsSlice old.id (start m) (most_events extent old.id (start m) budget) (record { count = n + 1; last = o }) (record_of next) filed left
      ended_slice budget comes = record {
        count = sym comes.count;
        last = sym (comes.last ∙ answer_there);
        store = ended_store;
      }

      -- after which the slice does not go on
      pub sliced-end : (budget : ℕ) → n < budget → cond (is_on o) (is_running_status next.control.status) false ≡ false → IsSlice old.id (start m) (most_events extent old.id (start m) budget) (record { count = n + 1; last = o }) (record_of next) filed left
      sliced-end budget within off = ended_slice budget (comes-end extent old.id n budget (start m) (there m) last (so_far.leads m held) (so_far.unended m held) within (goes_there ∙ off))

      -- which ends a step, and so a round
      pub sliced-round : (budget : ℕ) → n < budget → extent ≡ extents.Round → is_some step ≡ true → IsSlice old.id (start m) (most_events extent old.id (start m) budget) (record { count = n + 1; last = o }) (record_of next) filed left
      sliced-round budget within is some = ended_slice budget (comes-round extent old.id n budget (start m) (there m) last (so_far.leads m held) (so_far.unended m held) within is (ap (λ (x : Option ℕ). is_some x) step_there ∙ some))

    -- after which the slice goes on
    pub sliced-event : cond (is_on o) (is_running_status next.control.status) false ≡ true → (extent ≡ extents.Round → step ≡ None) → IsSliced extent old next outbox filed pool left (n + 1) o
    sliced-event on none = record {
      running = running_is next.control.status (runs_on (is_on o) (is_running_status next.control.status) on);
      named = event.same ∙ so_far.named;
      leads = λ m held.
          let id = old.id in
          let one = leads-one id (there m) last (goes_there m held ∙ on) in
          leads-on id n 1 (start m) (there m) (after_it m) S.Ran last o (so_far.leads m held)
          (subst (λ x. Leads id 1 (there m) last (after_it m) x) (answer_there m held)
          (subst (λ x. Leads id 1 (there m) last x (answer_to id (there m))) (store_there m held) one));
      unended = λ m held is.
          unended-on old.id n 1 (start m) (there m) (so_far.leads m held).store (so_far.unended m held is)
          (unended-one old.id (there m) (step_there m held ∙ none is));
    }

  -- the budget is used
  pub sliced-whole : (extent : Extent) (old now : Record A) (outbox filed : List Due) (pool left : List ℕ) (n : ℕ) (last : StepOutcome) → IsSliced extent old now outbox filed pool left n last → (budget : ℕ) → n ≡ budget → (m : Records) → map.get m old.id ≡ Some (record_of old) → IsSlice old.id (record { records = m; outbox = outbox; pool = pool }) (most_events extent old.id (record { records = m; outbox = outbox; pool = pool }) budget) (record { count = n; last = last }) (record_of now) filed left
  sliced-whole extent old now outbox filed pool left n last so_far budget used m held =
      let led = so_far.leads m held in
      let comes = comes-whole extent old.id n budget (record { records = m; outbox = outbox; pool = pool }) _ last led (so_far.unended m held) used in
      record {
        count = sym comes.count;
        last = sym comes.last;
        store = led.store;
      }

  -- and no step ended
  pub sliced-none-ended : (extent : Extent) (old now : Record A) (outbox filed : List Due) (pool left : List ℕ) (n : ℕ) (last : StepOutcome) → IsSliced extent old now outbox filed pool left n last → extent ≡ extents.Round → (m : Records) → map.get m old.id ≡ Some (record_of old) → None ≡ step_at old.id n (record { records = m; outbox = outbox; pool = pool })
  sliced-none-ended extent old now outbox filed pool left n last so_far is m held = sym (step-none old.id n (record { records = m; outbox = outbox; pool = pool }) (so_far.unended m held is))

-- ---- a slice of a procedure that does not run, or that is not loaded

still_of : (pool : List ℕ) (id : ℕ) (r : Rec) (full : Bool) (s : Status) → is_running_status s ≡ false → effect_by (transition (Step pool) (Some s) r.control.pending (length r.mailbox)) id (Some r) full ≡ Kept (Failed NotRunning)
still_of pool id r full Inactive off = refl
still_of pool id r full Running off = absurd (cc)
still_of pool id r full Held off = refl

-- a refused event is all that the slice has
refused : (id : ℕ) (m : Records) (outbox : List Due) (pool : List ℕ) (budget : ℕ) (failure : StartFailure) (o : StepOutcome) (r : Rec) → effect_in (Step pool) id m ≡ Kept (Failed failure) → step_outcome (Kept (Failed failure)) ≡ o → is_on o ≡ false → 1 ≤ budget → map.insert m id r ≡ m → IsSlice id (record { records = m; outbox = outbox; pool = pool }) budget (record { count = 1; last = o }) r outbox pool
refused id m outbox pool zero failure o r is answers off some same = absurd (omega (arith, some))
refused id m outbox pool (suc budget) failure o r is answers off some same =
    let start : Store = record { records = m; outbox = outbox; pool = pool } in
    let answer : answer_to id start ≡ o = ap step_outcome is ∙ answers in
    let stops : goes_on id start ≡ false = ap (λ a. cond (is_on a) (is_running (map.get (store_after id start).records id)) false) answer ∙ ap (λ b. cond b (is_running (map.get (store_after id start).records id)) false) off in
    record {
      count = sym (ap (λ b. cond b (suc (slice_count id (store_after id start) budget)) 1) stops);
      last = sym (ap (λ b. cond b (slice_last id (store_after id start) (answer_to id start) budget) (answer_to id start)) stops ∙ answer);
      store = ap (by_effect m outbox pool id) is ∙ ap (λ kept. record { records = m; outbox = kept; pool = pool }) (append-nil outbox) ∙ ap (λ x. record { records = x; outbox = outbox; pool = pool }) (sym same);
    }

-- the budget of a round is at least one event, if that of a slice is
pub most-some : (extent : Extent) (id budget : ℕ) (s : Store) → 1 ≤ budget → 1 ≤ most_events extent id s budget
most-some extent id budget s some =
    let split = most-split extent id 0 budget s (λ is. unended-none id s) (omega (arith, some)) in
    let is = split.1 in
    omega (arith, is)

pub still-slice : (id : ℕ) (m : Records) (outbox : List Due) (pool : List ℕ) (budget : ℕ) (r : Rec) → map.get m id ≡ Some r → is_running_status r.control.status ≡ false → 1 ≤ budget → IsSlice id (record { records = m; outbox = outbox; pool = pool }) budget (record { count = 1; last = S.NotRunning }) r outbox pool
still-slice id m outbox pool budget r held off some =
    let is : effect_in (Step pool) id m ≡ Kept (Failed NotRunning) = ap (λ o. effect_on (Step pool) id o (is_full m)) held ∙ still_of pool id r (is_full m) r.control.status off in
    refused id m outbox pool budget NotRunning S.NotRunning r is refl refl some (insert-same m id r held)

pub still-step : (id : ℕ) (m : Records) (outbox : List Due) (pool : List ℕ) (r : Rec) → map.get m id ≡ Some r → is_running_status r.control.status ≡ false → None ≡ step_at id 1 (record { records = m; outbox = outbox; pool = pool })
still-step id m outbox pool r held off =
    sym (ap step_ended (ap (λ o. effect_on (Step pool) id o (is_full m)) held ∙ still_of pool id r (is_full m) r.control.status off))

-- a slice of a procedure that is not loaded has one event, which is refused
pub absent-count : (id : ℕ) (m : Records) (outbox : List Due) (pool : List ℕ) (budget : ℕ) → map.get m id ≡ None → 1 ≤ budget → 1 ≡ slice_count id (record { records = m; outbox = outbox; pool = pool }) budget
absent-count id m outbox pool zero absent some = absurd (omega (arith, some))
absent-count id m outbox pool (suc budget) absent some =
    let start : Store = record { records = m; outbox = outbox; pool = pool } in
    let answer : answer_to id start ≡ S.NotLoaded = ap step_outcome (absent-step pool id m absent) in
    sym (ap (λ a. cond (cond (is_on a) (is_running (map.get (store_after id start).records id)) false) (suc (slice_count id (store_after id start) budget)) 1) answer)

pub absent-last : (id : ℕ) (m : Records) (outbox : List Due) (pool : List ℕ) (budget : ℕ) → map.get m id ≡ None → 1 ≤ budget → S.NotLoaded ≡ slice_last id (record { records = m; outbox = outbox; pool = pool }) S.Ran budget
absent-last id m outbox pool zero absent some = absurd (omega (arith, some))
absent-last id m outbox pool (suc budget) absent some =
    let start : Store = record { records = m; outbox = outbox; pool = pool } in
    let answer : answer_to id start ≡ S.NotLoaded = ap step_outcome (absent-step pool id m absent) in
    sym (ap (λ a. cond (cond (is_on a) (is_running (map.get (store_after id start).records id)) false) (slice_last id (store_after id start) (answer_to id start) budget) (answer_to id start)) answer ∙ answer)

pub absent-step-ended : (id : ℕ) (m : Records) (outbox : List Due) (pool : List ℕ) → map.get m id ≡ None → None ≡ step_at id 1 (record { records = m; outbox = outbox; pool = pool })
absent-step-ended id m outbox pool absent = sym (ap step_ended (absent-step pool id m absent))

pub absent-store : (id : ℕ) (m : Records) (outbox : List Due) (pool : List ℕ) → map.get m id ≡ None → store_after_events id 1 (record { records = m; outbox = outbox; pool = pool }) ≡ record { records = m; outbox = outbox; pool = pool }
absent-store id m outbox pool absent = ap (by_effect m outbox pool id) (absent-step pool id m absent) ∙ ap (λ kept. record { records = m; outbox = kept; pool = pool }) (append-nil outbox)

-- whether a slice goes on after an outcome, if that lets it
pub goes_then : (o : StepOutcome) (running : Bool) {on goes : Bool} → on ≡ is_on o → on ≡ true → goes ≡ running → goes ≡ cond (is_on o) running false
goes_then o running is true_is goes_is = goes_is ∙ ap (λ b. cond b running false) (sym true_is ∙ is)

-- and if it does not
pub goes_else : (o : StepOutcome) (running : Bool) {on goes : Bool} → on ≡ is_on o → on ≡ false → goes ≡ false → goes ≡ cond (is_on o) running false
goes_else o running is false_is goes_is = goes_is ∙ ap (λ b. cond b running false) (sym false_is ∙ is)

-- whether events end with one that ended this step: those of a round alone do
pub round_ends : (extent : Extent) (step : Option ℕ) → ends_with extent step ≡ true → (extent ≡ extents.Round) × (is_some step ≡ true)
round_ends extents.Slice step is = absurd (cc)
round_ends extents.Round step is = (refl, is)

-- a round that does not end with it ended none
pub round_none : (extent : Extent) (step : Option ℕ) → ends_with extent step ≡ false → extent ≡ extents.Round → step ≡ None
round_none extents.Slice step is round = absurd (cc)
round_none extents.Round None is round = refl
round_none extents.Round (Some step) is round = absurd (cc)
