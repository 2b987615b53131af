-- With a budget of n > 0 at most n instructions are done.
use Rattle.std.proofs.Common.{◌≡◌, ◌≤◌, ℕ, ◌+◌, ◌-◌, Option, Some, None, Bool, true, false, cond, List, length, refl, sym, ap, subst, ◌∙◌, arith}
use Rattle.std.specs.Prelude.{◌==◌, ◌&&◌, nat_lt}
use Rattle.std.proofs.lemmas.Bool.{eqb-true, eqb-false}
use Rattle.std.specs.Ordering.{nat_cmp}
use Rattle.std.specs.FinMap.{get, get-empty}
use Rattle.ocp_profile.specs.declared.profile.Profile.{Profile}
use Rattle.pus_fields.specs.TelecommandFaults.{telecommand_of}
use Rattle.obcp_types.specs.declared.failure.StartFailure.{StartFailure}
use Rattle.obcp_types.specs.declared.failure.StartFailure.TheVariants.{NotLoaded}
use Rattle.obcp_types.specs.declared.status.Status.{Status}
use Rattle.obcp_types.specs.declared.status.Status.TheVariants.{Inactive, Running, Held}
use Rattle.bpf_step.specs.declared.answer.Need.TheVariants as need
use Rattle.bpf_step.specs.Machine.{Outcome, Next, Needs, NoInstruction, read}
use Rattle.bpf_step.specs.Runs.{breaks_at}
use Rattle.bpf_step.specs.Step.{one_step}
use Rattle.ocp_pool.specs.declared.call.Called.{Called as Call}
use Rattle.ocp_pool.specs.Call.{engine_call}
use Rattle.ocp_table.specs.declared.answers.InstructionOutcome.{InstructionOutcome}
use Rattle.ocp_table.specs.declared.answers.InstructionOutcome.TheVariants.{Broke, Ran, Called, Ended, Faulted}
use Rattle.ocp_table.specs.declared.fault.ProcedureFault.TheVariants.{BudgetSpent}
use Rattle.ocp_table.specs.Budgets.{budget_of, one_less, less, is_spent}
use Rattle.ocp_table.specs.Records.{Rec}
use Rattle.ocp_table.specs.Effects as table
use Rattle.ocp_table.specs.Effects.{Effect, Loaded, Unloaded, Changed, Kept, Drained, WordPut, Change, Started, Failed, remaining_by, step_outcome, step_outcome_of, new_record}
use Rattle.ocp_table.specs.Deciding.{outcome_of, outcome_of_call, outcome_unheld}
use Rattle.ocp_world.specs.World.{World, Event, Request, Step, Debug, Drain, Put, opening}
use Rattle.ocp_world.specs.After.{Stepped, effect_of, after}
use Rattle.ocp_world.specs.Replay.{replay}
use Rattle.ocp_world.proofs.Calm.{IsIdle}
use Rattle.ocp_core.specs.Budget.{given_budget_by, given_budget, begins_anew, is_use, use_count_by, use_count, IsWithinBudget, RemainsAreCounted, FindsNothing, FaultsSpent}
use Rattle.ocp_core.proofs.Owned.{changed_if_there, own_by, get-records_by}
use Rattle.ocp_core.proofs.Carried.{carried_along}
use Rattle.ocp_core.proofs.Honest.{IsNext}
use Rattle.ocp_core.proofs.Idle.{idle_request, idle_debug, idle_drain, idle_put}
use Rattle.ocp_core.proofs.Pools.{next_of, does_next}
use Rattle.ocp_core.proofs.Turns.{Turn, Refuses, Makes, by_turn, turn_of, turn_by, turn, turn_in, effect-turn}

-- ---- what remains is what was given less what was used

record IsKept (left : Option ℕ) (given used : ℕ) : Type 0 where
  counted : left ≡ less used (budget_of given)
  within : 1 ≤ given → used ≤ given

abbrev IsKeptOf : Option Rec → ℕ → ℕ → Type 0
IsKeptOf None given used = used ≡ 0
IsKeptOf (Some r) given used = IsKept r.remaining given used

less_none : (left : Option ℕ) → left ≡ less 0 left
less_none None = refl
less_none (Some k) = ap Some (omega arith)

less_one : (used : ℕ) (left : Option ℕ) → one_less (less used left) ≡ less (used + 1) left
less_one used None = refl
less_one used (Some k) = ap Some (omega arith)

kept_started : (budget : ℕ) → IsKept (budget_of budget) budget 0
kept_started budget = record { counted = less_none (budget_of budget); within = λ some. omega arith }

-- if something is left, less than what was given was used
left_over : (given used : ℕ) → is_spent (less used (budget_of given)) ≡ false → 1 ≤ given → used + 1 ≤ given
left_over given used unspent some = elim (given == 0) as (λ b. (given == 0) ≡ b → is_spent (less used (cond b None (Some given))) ≡ false → used + 1 ≤ given) [
  | true ↦ λ e h. let none : given ≡ 0 = eqb-true given 0 e in absurd (omega arith)
  | false ↦ λ e h. let k : given - used ≡ 0 → ⊥ = eqb-false (given - used) 0 h in omega arith
] refl unspent

-- an instruction takes one
kept_use : (left : Option ℕ) (given used : ℕ) → is_spent left ≡ false → IsKept left given used → IsKept (one_less left) given (used + 1)
kept_use left given used some is = record {
  counted = ap one_less is.counted ∙ less_one used (budget_of given);
  within = left_over given used (subst (λ l. is_spent l ≡ false) is.counted some);
}

-- ---- an event that is no instruction

kept_start : (budget : ℕ) (arguments : List ℕ) (o : Option Rec) → IsKeptOf (changed_if_there (Started budget arguments) o) budget 0
kept_start budget arguments None = refl
kept_start budget arguments (Some r) = kept_started budget

-- a change that leaves what remains
kept_change : (change : Change) (o : Option Rec) (given used : ℕ) → ((r : Rec) → remaining_by change r.remaining ≡ r.remaining) → IsKeptOf o given used → IsKeptOf (changed_if_there change o) given used
kept_change change None given used leaves is = is
kept_change change (Some r) given used leaves is = subst (λ l. IsKept l given used) (sym (leaves r)) is

module _ (q : ℕ) (o : Option Rec) (given used : ℕ) (is : IsKeptOf o given used) where
  kept_changed : (id : ℕ) (change : Change) → ((r : Rec) → remaining_by change r.remaining ≡ r.remaining) → IsKeptOf (own_by q (Changed id change) o) given used
  kept_changed id change leaves = elim (q == id) as (λ b. IsKeptOf (cond b (changed_if_there change o) o) given used) [ true ↦ kept_change change o given used leaves is | false ↦ is ]

  kept_apart : (effect : Effect) → IsIdle effect → IsKeptOf (own_by q effect o) (given_budget_by q effect given) (cond (begins_anew q effect) 0 used)
  kept_apart (Loaded profile id image) idle = elim (q == id) as (λ b. IsKeptOf (cond b (Some (new_record profile image)) o) (cond b 0 given) (cond b 0 used)) [ true ↦ kept_started 0 | false ↦ is ]
  kept_apart (Unloaded id) idle = elim (q == id) as (λ b. IsKeptOf (cond b None o) (cond b 0 given) (cond b 0 used)) [ true ↦ refl | false ↦ is ]
  kept_apart (Changed id (Started budget arguments)) idle = elim (q == id) as (λ b. IsKeptOf (cond b (changed_if_there (Started budget arguments) o) o) (cond b budget given) (cond b 0 used)) [ true ↦ kept_start budget arguments o | false ↦ is ]
  kept_apart (Changed id (table.Stepped outcome)) idle = absurd idle
  kept_apart (Changed id change) idle = kept_changed id change (λ r. refl)
  kept_apart Drained idle = is
  kept_apart (WordPut index value) idle = is
  kept_apart (Kept why) idle = is

-- ---- an instruction

-- it is done only if its budget is not spent
abbrev IsAble : Option Rec → InstructionOutcome → Type 0
IsAble None outcome = ⊥
IsAble (Some r) Ran = is_spent r.remaining ≡ false
IsAble (Some r) (Called call) = is_spent r.remaining ≡ false
IsAble (Some r) Ended = is_spent r.remaining ≡ false
IsAble (Some r) outcome = Unit {0}

abbrev IsAbleTurn : Option Rec → Turn → Type 0
IsAbleTurn o (Refuses failure) = Unit {0}
IsAbleTurn o (Makes outcome) = IsAble o outcome

module _ (r : Rec) (pool : List ℕ) where
  able_outcome : is_spent r.remaining ≡ false → (outcome : InstructionOutcome) → IsAble (Some r) outcome
  able_outcome some Broke = tt
  able_outcome some Ran = some
  able_outcome some (Called call) = some
  able_outcome some Ended = some
  able_outcome some (Faulted number) = tt

  able_of : is_spent r.remaining ≡ false → (t : Turn) → IsAbleTurn (Some r) t
  able_of some (Refuses failure) = tt
  able_of some (Makes outcome) = able_outcome some outcome

  abbrev of_machine : Option InstructionOutcome
  of_machine = outcome_of (one_step r.image r.machine) r.machine pool r.mailbox

  able_unheld : (held spent : Bool) → is_spent r.remaining ≡ spent → IsAbleTurn (Some r) (turn_of (cond held (Some Broke) (cond spent (Some (Faulted BudgetSpent)) of_machine)))
  able_unheld true spent is = tt
  able_unheld false true is = tt
  able_unheld false false is = able_of is (turn_of of_machine)

  able_by : (s : Status) → IsAbleTurn (Some r) (turn_by s r pool)
  able_by Inactive = tt
  able_by Running = able_unheld (breaks_at r.control.pass r.breakpoints r.machine.place) (is_spent r.remaining) refl
  able_by Held = tt

able : (o : Option Rec) (pool : List ℕ) → IsAbleTurn o (turn o pool)
able None pool = tt
able (Some r) pool = able_by r pool r.control.status

refuses_use : (failure : StartFailure) → is_use (Stepped (step_outcome (Kept (Failed failure)))) ≡ false
refuses_use NotLoaded = refl
refuses_use failure = refl

kept_made : (outcome : InstructionOutcome) (o : Option Rec) (given used : ℕ) → IsAble o outcome → IsKeptOf o given used → IsKeptOf (changed_if_there (table.Stepped outcome) o) given (cond (is_use (Stepped (step_outcome_of outcome))) (used + 1) used)
kept_made outcome None given used able is = absurd able
kept_made Broke (Some r) given used able is = is
kept_made Ran (Some r) given used able is = kept_use r.remaining given used able is
kept_made (Called call) (Some r) given used able is = kept_use r.remaining given used able is
kept_made Ended (Some r) given used able is = kept_use r.remaining given used able is
kept_made (Faulted number) (Some r) given used able is = is

abbrev IsKeptBy : ℕ → ℕ → Option Rec → ℕ → ℕ → Effect → Type 0
IsKeptBy q id o given used effect = IsKeptOf (own_by q effect o) (given_budget_by q effect given) (cond (begins_anew q effect) 0 (cond ((q == id) && is_use (Stepped (step_outcome effect))) (used + 1) used))

kept_turn : (q id : ℕ) (o : Option Rec) (given used : ℕ) (t : Turn) → ((q == id) ≡ true → IsAbleTurn o t) → IsKeptOf o given used → IsKeptBy q id o given used (by_turn id t)
kept_turn q id o given used (Refuses failure) able is = elim (q == id) as (λ b. IsKeptOf o given (cond (b && is_use (Stepped (step_outcome (Kept (Failed failure))))) (used + 1) used)) [
  | true ↦ subst (λ c. IsKeptOf o given (cond c (used + 1) used)) (sym (refuses_use failure)) is
  | false ↦ is
]
kept_turn q id o given used (Makes outcome) able is = elim (q == id) as (λ b. (b ≡ true → IsAble o outcome) → IsKeptOf (cond b (changed_if_there (table.Stepped outcome) o) o) given (cond (b && is_use (Stepped (step_outcome_of outcome))) (used + 1) used)) [
  | true ↦ λ able. kept_made outcome o given used (able refl) is
  | false ↦ λ able. is
] able

-- ---- every event

module _ (q : ℕ) (w : World) (given used : ℕ) (is : IsKeptOf (get w.records q) given used) where
  kept_step : (id : ℕ) → IsKeptBy q id (get w.records q) given used (by_turn id (turn_in w id))
  kept_step id = kept_turn q id (get w.records q) given used (turn_in w id) (λ same. subst (λ k. IsAbleTurn (get w.records k) (turn_in w id)) (sym (eqb-true q id same)) (able (get w.records id) w.pool)) is

  -- the record of q after an event is that after its effect
  there : (e : Event) → IsKeptOf (own_by q (effect_of w e).on_records (get w.records q)) (given_budget_by q (effect_of w e).on_records given) (use_count_by q w e used) → IsKeptOf (get (after w e).world.records q) (given_budget_by q (effect_of w e).on_records given) (use_count_by q w e used)
  there e kept = subst (λ o. IsKeptOf o (given_budget_by q (effect_of w e).on_records given) (use_count_by q w e used)) (sym (get-records_by (effect_of w e).on_records w.records q)) kept

  kept_event : (e : Event) → IsKeptOf (get (after w e).world.records q) (given_budget_by q (effect_of w e).on_records given) (use_count_by q w e used)
  kept_event (Step by id) = there (Step by id) (subst (IsKeptBy q id (get w.records q) given used) (sym (effect-turn w id)) (kept_step id))
  kept_event (Request by time octets) = there (Request by time octets) (kept_apart q (get w.records q) given used is (effect_of w (Request by time octets)).on_records (idle_request w (telecommand_of w.apid octets) time))
  kept_event (Debug by id command) = there (Debug by id command) (kept_apart q (get w.records q) given used is (effect_of w (Debug by id command)).on_records (idle_debug w command id))
  kept_event (Drain by time) = there (Drain by time) (kept_apart q (get w.records q) given used is (effect_of w (Drain by time)).on_records (idle_drain time w.outbox))
  kept_event (Put by index value) = there (Put by index value) (kept_apart q (get w.records q) given used is (effect_of w (Put by index value)).on_records (idle_put (nat_lt index (length w.pool)) index value))

kept : (profile : Profile) (apid words : ℕ) (es : List Event) (q : ℕ) → IsKeptOf (get (replay profile apid words es).records q) (given_budget profile apid words es q) (use_count profile apid words es q)
kept profile apid words es q =
    carried_along {U = ℕ} (λ w e n. given_budget_by q (effect_of w e).on_records n) (use_count_by q) (λ w e u. u) (λ w n m u. IsKeptOf (get w.records q) n m)
    (λ w n m u e is. kept_event q w n m is e) (opening profile apid words) 0 0 0 es (subst (λ o. IsKeptOf o 0 0) (sym (get-empty nat_cmp q)) refl)

at_most : (o : Option Rec) (given used : ℕ) → IsKeptOf o given used → 1 ≤ given → used ≤ given
at_most None given used is some = omega arith
at_most (Some r) given used is some = is.within some

pub is_within_budget : IsWithinBudget
is_within_budget profile apid words es q some = at_most (get (replay profile apid words es).records q) (given_budget profile apid words es q) (use_count profile apid words es q) (kept profile apid words es q) some

pub remains_are_counted : RemainsAreCounted
remains_are_counted profile apid words es q r here =
    (subst (λ o. IsKeptOf o (given_budget profile apid words es q) (use_count profile apid words es q)) here (kept profile apid words es q)).counted

-- ---- the fault of a spent budget

module _ (r : Rec) (pool : List ℕ) where
  not_of_call : (c : Option Call) → Some (outcome_of_call c) ≡ Some (Faulted BudgetSpent) → ⊥
  not_of_call (Some call) e = cc
  not_of_call None e = cc

  not_of_machine : (l : Outcome) → outcome_of l r.machine pool r.mailbox ≡ Some (Faulted BudgetSpent) → ⊥
  not_of_machine (Next s) e = cc
  not_of_machine (Needs need.LastExit) e = cc
  not_of_machine (Needs (need.Fault fault)) e = cc
  not_of_machine (Needs (need.Call number)) e = not_of_call (engine_call number (read r.machine 1) (read r.machine 2) (read r.machine 3) pool r.mailbox) e
  not_of_machine NoInstruction e = cc

  finds_by : (held spent : Bool) → cond held (Some Broke) (cond spent (Some (Faulted BudgetSpent)) (of_machine r pool)) ≡ Some (Faulted BudgetSpent) → (held ≡ false) × (spent ≡ true)
  finds_by true spent e = cc
  finds_by false true e = (refl, refl)
  finds_by false false e = absurd (not_of_machine (one_step r.image r.machine) e)

finds : (o : Option Rec) (pool : List ℕ) → IsNext o pool (Faulted BudgetSpent) → FindsNothing o
finds o pool is =
    let found = finds_by is.rec pool (breaks_at is.rec.control.pass is.rec.breakpoints is.rec.machine.place) (is_spent is.rec.remaining) is.next in
    record { rec = is.rec; is = is.is; runs = is.runs; passes = found.0; spent = found.1 }

faults : (o : Option Rec) (pool : List ℕ) → FindsNothing o → IsNext o pool (Faulted BudgetSpent)
faults o pool is = record {
  rec = is.rec;
  is = is.is;
  runs = is.runs;
  next = ap (λ b. cond b (Some Broke) (outcome_unheld is.rec pool)) is.passes ∙ ap (λ b. cond b (Some (Faulted BudgetSpent)) (of_machine is.rec pool)) is.spent;
}

pub faults_spent : FaultsSpent
faults_spent profile apid words es by id =
    let w = replay profile apid words es in
    ((λ does. finds (get w.records id) w.pool (next_of w by id (Faulted BudgetSpent) does)), (λ is. does_next w by id (Faulted BudgetSpent) (faults (get w.records id) w.pool is)))
