-- The own events of a procedure are those that its image brings about, and so are the machine's faults.
use Rattle.std.proofs.Common.{◌≡◌, ℕ, ℤ, pos, Bool, arith, List, [], ◌∷◌, ◌++◌, Option, Some, None, true, false, cond, refl, sym, ap, subst, ◌∙◌}
use Rattle.std.specs.Prelude.{◌==◌, ◌%◌, ◌^◌, if◌then◌else◌, slice_get, unsigned_abs}
use Rattle.std.specs.Ordering.{nat_cmp}
use Rattle.std.specs.FinMap.{get, get-empty}
use Rattle.std.proofs.lemmas.Bool.{eqb-true}
use Rattle.std.proofs.lemmas.Bool.Decides.{nat_tests}
use Rattle.ocp_profile.specs.declared.profile.Profile.{Profile}
use Rattle.obcp_types.specs.declared.failure.StartFailure.{StartFailure}
use Rattle.obcp_types.specs.declared.failure.StartFailure.TheVariants.{NotLoaded}
use Rattle.bpf_step.specs.declared.answer.MachineFault.{MachineFault}
use Rattle.bpf_step.specs.declared.answer.Need.TheVariants as need
use Rattle.bpf_step.specs.Machine.{State, Outcome, Next, Needs, NoInstruction, machine_at_start, read}
use Rattle.bpf_step.specs.Step.{one_step}
use Rattle.ocp_pool.specs.declared.call.Called.{Called as Call}
use Rattle.ocp_pool.specs.declared.call.Called.TheVariants.{NextParam, StepEnd}
use Rattle.ocp_pool.specs.Call.{engine_call, number_of, r0_of, r1_of, was_there, pool_get, pool_set, pool_add, pool_compare_set}
use Rattle.bpf_step.specs.Answers.{IsAnswer, was_given}
use Rattle.ocp_table.specs.declared.answers.InstructionOutcome.{InstructionOutcome}
use Rattle.ocp_table.specs.declared.answers.InstructionOutcome.TheVariants.{Broke, Ran, Called, Ended, Faulted}
use Rattle.ocp_table.specs.declared.answers.StepOutcome.TheVariants as answer
use Rattle.ocp_table.specs.declared.fault.ProcedureFault.{ProcedureFault}
use Rattle.ocp_table.specs.declared.fault.ProcedureFault.TheVariants as fault
use Rattle.ocp_table.specs.Faults.{fault_number}
use Rattle.ocp_table.specs.Records.{Rec, Records}
use Rattle.ocp_table.specs.Effects.{Effect, Loaded, Unloaded, Changed, Kept, Drained, WordPut, Change, Started, Stepped, Failed, new_record, step_outcome}
use Rattle.ocp_table.specs.Deciding.{outcome_in, outcome_unheld, outcome_of, outcome_of_call, outcome_at}
use Rattle.ocp_world.specs.World.{Event, opening}
use Rattle.ocp_world.specs.After.{Stepped as Answered}
use Rattle.ocp_world.specs.Replay.{replay}
use Rattle.ocp_core.specs.Own.{Own, own_by_outcome, own_by_change, add_own, add_image, own_events}
use Rattle.ocp_core.specs.Alone.{state_by, alone_from, alone}
use Rattle.ocp_core.specs.Possible.{ArePossible, image_of, ImagesStay, OwnEventsArePossible, Meets, FaultsOfMachine, FaultsAreAnswered}
use Rattle.ocp_core.proofs.Owned.{changed_if_there, own_by, get-records_by}
use Rattle.ocp_core.proofs.Honest.{IsNext, IsHonest, IsHonestChange}
use Rattle.ocp_core.proofs.Carried.{carried}
use Rattle.ocp_core.proofs.Factorisation.{alone_from-append, machine_by-own}
use Rattle.ocp_core.proofs.Turns.{Turn, Refuses, Makes, by_turn, turn_in, effect-turn}
use Rattle.ocp_core.proofs.Pools.{next_of, does_next, of_machine, answer_of, answered_need}

-- ---- the own event of a change

possible-append : (image : List ℕ) (s : State) (xs ys : List Own) → ArePossible image s xs → ArePossible image (alone_from image s xs) ys → ArePossible image s (xs ++ ys)
possible-append image s [] ys first rest = rest
possible-append image s (x ∷ xs) ys first rest = (first.0, possible-append image (state_by image x s) xs ys first.1 rest)

abbrev number_in : Option Call → ℕ
number_in (Some call) = number_of call
number_in None = 5

-- call 5 ends a step
ends_step : (called : ℤ) (call : Call) (r1 r2 r3 : ℕ) (pool mailbox : List ℕ) → engine_call called r1 r2 r3 pool mailbox ≡ Some call → called ≡ pos 5 → number_of call ≡ 5
ends_step called call r1 r2 r3 pool mailbox is five =
    let found : Some (StepEnd (r1 % 2 ^ 16)) ≡ Some call = subst (λ n. engine_call n r1 r2 r3 pool mailbox ≡ Some call) five is in
    sym (ap number_in found)

-- what a call answers in R1, and in R0
abbrev r1_in : Option Call → Option ℕ
r1_in (Some call) = r1_of call
r1_in None = None

abbrev r0_in : Option Call → ℕ
r0_in (Some call) = r0_of call
r0_in None = 0

get_keeps : (r1 : ℕ) (o : Option ℕ) → r1_in (pool_get r1 o) ≡ None
get_keeps r1 (Some word) = refl
get_keeps r1 None = refl

set_keeps : (r1 r2 : ℕ) (o : Option ℕ) → r1_in (pool_set r1 r2 o) ≡ None
set_keeps r1 r2 (Some word) = refl
set_keeps r1 r2 None = refl

add_keeps : (r1 r2 : ℕ) (o : Option ℕ) → r1_in (pool_add r1 r2 o) ≡ None
add_keeps r1 r2 (Some word) = refl
add_keeps r1 r2 None = refl

compare_set_keeps : (r1 r2 r3 : ℕ) (o : Option ℕ) → r1_in (pool_compare_set r1 r2 r3 o) ≡ None
compare_set_keeps r1 r2 r3 (Some word) = refl
compare_set_keeps r1 r2 r3 None = refl

module _ (r1 r2 r3 : ℕ) (pool mailbox : List ℕ) where
  -- the call of a magnitude
  abbrev call_of : ℕ → Option Call
  call_of n =
      if n == 1 then pool_get r1 (slice_get pool r1)
      else if n == 2 then pool_set r1 r2 (slice_get pool r1)
      else if n == 3 then pool_add r1 r2 (slice_get pool r1)
      else if n == 4 then Some (NextParam (slice_get mailbox 0))
      else if n == 6 then pool_compare_set r1 r2 r3 (slice_get pool r1)
      else Some (StepEnd (r1 % 2 ^ 16))

  keeps_if : (one two three four six : Bool) → four ≡ false →
      r1_in (cond one (pool_get r1 (slice_get pool r1)) (cond two (pool_set r1 r2 (slice_get pool r1)) (cond three (pool_add r1 r2 (slice_get pool r1)) (cond four (Some (NextParam (slice_get mailbox 0))) (cond six (pool_compare_set r1 r2 r3 (slice_get pool r1)) (Some (StepEnd (r1 % 2 ^ 16)))))))) ≡ None
  keeps_if true two three four six h = get_keeps r1 (slice_get pool r1)
  keeps_if false true three four six h = set_keeps r1 r2 (slice_get pool r1)
  keeps_if false false true four six h = add_keeps r1 r2 (slice_get pool r1)
  keeps_if false false false true six h = absurd cc
  keeps_if false false false false true h = compare_set_keeps r1 r2 r3 (slice_get pool r1)
  keeps_if false false false false false h = refl

  not_four : (n : ℕ) → (n ≡ 4 → ⊥) → (n == 4) ≡ false
  not_four n h = grind (arith, nat_tests)

  -- next_param alone writes R1
  keeps : (n : ℕ) → (n ≡ 4 → ⊥) → r1_in (call_of n) ≡ None
  keeps n h = keeps_if (n == 1) (n == 2) (n == 3) (n == 4) (n == 6) (not_four n h)

  given_by : (word : Option ℕ) → was_there word ≡ was_given word
  given_by (Some w) = refl
  given_by None = refl

  tells : (n : ℕ) → n ≡ 4 → r0_in (call_of n) ≡ was_given (r1_in (call_of n))
  tells n e = subst (λ k. r0_in (call_of k) ≡ was_given (r1_in (call_of k))) (sym e) (given_by (slice_get mailbox 0))

  ends : (n : ℕ) → n ≡ 5 → r0_in (call_of n) ≡ 0
  ends n e = subst (λ k. r0_in (call_of k) ≡ 0) (sym e) refl

  -- what is answered is an answer of the call's number
  is_answer : (called : ℤ) (call : Call) → engine_call called r1 r2 r3 pool mailbox ≡ Some call → IsAnswer called (r0_of call) (r1_of call)
  is_answer called call is = record {
    keeps = λ h. sym (ap r1_in is) ∙ keeps (unsigned_abs called) h;
    tells = λ e. sym (ap r0_in is) ∙ tells (unsigned_abs called) e ∙ ap (λ o. was_given (r1_in o)) is;
    ends = λ e. sym (ap r0_in is) ∙ ends (unsigned_abs called) e;
  }

module _ (r : Rec) (pool : List ℕ) where
  ran : (l : Outcome) → outcome_of l r.machine pool r.mailbox ≡ Some Ran → (t : State) × (l ≡ Next t)
  ran (Next s) e = (s, refl)
  ran (Needs need.LastExit) e = cc
  ran (Needs (need.Fault f)) e = cc
  ran (Needs (need.Call number)) e = no_call (answer_of r pool number) e
    where
      no_call : (c : Option Call) → Some (outcome_of_call c) ≡ Some Ran → (t : State) × (Needs (need.Call number) ≡ Next t)
      no_call (Some call) e = cc
      no_call None e = cc
  ran NoInstruction e = cc

  possible_outcome : (outcome : InstructionOutcome) → outcome_in r pool ≡ Some outcome → ArePossible r.image r.machine (own_by_outcome outcome)
  possible_outcome Ran is = let of = of_machine r pool Ran (λ e. cc) (λ e. cc) is in (ran (one_step r.image r.machine) of.2, tt)
  possible_outcome (Called call) is =
      let of = of_machine r pool (Called call) (λ e. cc) (λ e. cc) is in
      let found = answered_need r pool call (one_step r.image r.machine) of.2 in (
        record {
          called = found.0;
          next = found.1;
          ends_step = ends_step found.0 call (read r.machine 1) (read r.machine 2) (read r.machine 3) pool r.mailbox found.2;
          answered = is_answer (read r.machine 1) (read r.machine 2) (read r.machine 3) pool r.mailbox found.0 call found.2;
        },
        tt,
      )
  possible_outcome outcome is = tt

  possible_change : (change : Change) → IsHonestChange (Some r) pool change → ArePossible r.image r.machine (own_by_change change)
  possible_change (Started budget arguments) honest = (honest, tt)
  possible_change (Stepped outcome) honest = possible_outcome outcome (ap (λ o. outcome_at o pool) honest.is ∙ honest.next)
  possible_change change honest = tt

-- ---- every event

-- a machine is that of these own events, and each of them was possible
abbrev CameBy : Profile → Option Rec → List Own → Type 0
CameBy profile None own = Unit {0}
CameBy profile (Some r) own = (r.machine ≡ alone profile r.image own) × ArePossible r.image (machine_at_start profile []) own

came_changed : (profile : Profile) (change : Change) (o : Option Rec) (pool : List ℕ) (own : List Own) → IsHonestChange o pool change → CameBy profile o own → CameBy profile (changed_if_there change o) (own ++ own_by_change change)
came_changed profile change None pool own honest is = tt
came_changed profile change (Some r) pool own honest is =
    let start : State = machine_at_start profile [] in (
      machine_by-own change r.image r.machine ∙ ap (λ s. alone_from r.image s (own_by_change change)) is.0 ∙ sym (alone_from-append r.image start own (own_by_change change)),
      possible-append r.image start own (own_by_change change) is.1 (subst (λ s. ArePossible r.image s (own_by_change change)) is.0 (possible_change r pool change honest)),
    )

module _ (profile : Profile) (m : Records) (pool : List ℕ) (q : ℕ) (own : List Own) where
  came_by : (effect : Effect) → IsHonest profile m pool effect → CameBy profile (get m q) own → CameBy profile (own_by q effect (get m q)) (add_own q effect own)
  came_by (Loaded by id image) by-is is = elim (q == id) as (λ b. CameBy profile (cond b (Some (new_record by image)) (get m q)) (cond b [] own)) [ true ↦ (ap (λ p. machine_at_start p []) by-is, tt) | false ↦ is ]
  came_by (Unloaded id) honest is = elim (q == id) as (λ b. CameBy profile (cond b None (get m q)) own) [ true ↦ tt | false ↦ is ]
  came_by (Changed id change) honest is = elim (q == id) as (λ b. (q == id) ≡ b → CameBy profile (cond b (changed_if_there change (get m q)) (get m q)) (cond b (own ++ own_by_change change) own)) [
    | true ↦ λ e. came_changed profile change (get m q) pool own (subst (λ k. IsHonestChange (get m k) pool change) (sym (eqb-true q id e)) honest) is
    | false ↦ λ e. is
  ] refl
  came_by (Kept why) honest is = is
  came_by Drained honest is = is
  came_by (WordPut index value) honest is = is

came : (profile : Profile) (apid words : ℕ) (es : List Event) (q : ℕ) → ((replay profile apid words es).profile ≡ profile) × CameBy profile (get (replay profile apid words es).records q) (own_events profile apid words es q)
came profile apid words es q =
    carried {T = ℕ} (add_own q) (λ effect t. t) (λ w own t. (w.profile ≡ profile) × CameBy profile (get w.records q) own)
    (λ w own t effect honest is.
    let by : IsHonest profile w.records w.pool effect.on_records = subst (λ p. IsHonest p w.records w.pool effect.on_records) is.0 honest in
    (is.0, subst (λ o. CameBy profile o (add_own q effect.on_records own)) (sym (get-records_by effect.on_records w.records q)) (came_by profile w.records w.pool q own effect.on_records by is.1)))
    (opening profile apid words) [] 0 es (refl, subst (λ o. CameBy profile o []) (sym (get-empty nat_cmp q)) tt)

-- ---- images

image_changed : (change : Change) (o : Option Rec) → image_of (changed_if_there change o) ≡ image_of o
image_changed change None = refl
image_changed change (Some r) = refl

image_by : (q : ℕ) (effect : Effect) (o : Option Rec) (image : Option (List ℕ)) → image_of o ≡ image → image_of (own_by q effect o) ≡ add_image q effect image
image_by q (Loaded by id code) o image is = elim (q == id) as (λ b. image_of (cond b (Some (new_record by code)) o) ≡ cond b (Some code) image) [ true ↦ refl | false ↦ is ]
image_by q (Unloaded id) o image is = elim (q == id) as (λ b. image_of (cond b None o) ≡ cond b None image) [ true ↦ refl | false ↦ is ]
image_by q (Changed id change) o image is = elim (q == id) as (λ b. image_of (cond b (changed_if_there change o) o) ≡ image) [ true ↦ image_changed change o ∙ is | false ↦ is ]
image_by q (Kept why) o image is = is
image_by q Drained o image is = is
image_by q (WordPut index value) o image is = is

pub images_stay : ImagesStay
images_stay profile apid words es q =
    carried {T = ℕ} (add_image q) (λ effect t. t) (λ w image t. image_of (get w.records q) ≡ image)
    (λ w image t effect honest is. ap image_of (get-records_by effect.on_records w.records q) ∙ image_by q effect.on_records (get w.records q) image is)
    (opening profile apid words) None 0 es (ap image_of (get-empty nat_cmp q))

-- the own events of a record with this image
possible_at : (profile : Profile) (o : Option Rec) (own : List Own) (image : List ℕ) → CameBy profile o own → image_of o ≡ Some image → ArePossible image (machine_at_start profile []) own
possible_at profile None own image is e = cc
possible_at profile (Some r) own image is e = let same : r.image ≡ image = cc in subst (λ code. ArePossible code (machine_at_start profile []) own) same is.1

pub own_events_are_possible : OwnEventsArePossible
own_events_are_possible profile apid words es q image loaded =
    possible_at profile (get (replay profile apid words es).records q) (own_events profile apid words es q) image (came profile apid words es q).1 (images_stay profile apid words es q ∙ loaded)

-- ---- the machine's faults

module _ (r : Rec) (pool : List ℕ) (f : MachineFault) where
  not_by_call : (c : Option Call) → Some (outcome_of_call c) ≡ Some (Faulted (fault.Machine f)) → ⊥
  not_by_call (Some call) e = cc
  not_by_call None e = cc

  met_need : (l : Outcome) → outcome_of l r.machine pool r.mailbox ≡ Some (Faulted (fault.Machine f)) → l ≡ Needs (need.Fault f)
  met_need (Next s) e = cc
  met_need (Needs need.LastExit) e = cc
  met_need (Needs (need.Fault other)) e = cc
  met_need (Needs (need.Call number)) e = absurd (not_by_call (answer_of r pool number) e)
  met_need NoInstruction e = cc

met : (o : Option Rec) (pool : List ℕ) (f : MachineFault) → IsNext o pool (Faulted (fault.Machine f)) → Meets o f
met o pool f is =
    let of = of_machine is.rec pool (Faulted (fault.Machine f)) (λ e. cc) (λ e. cc) is.next in
    record { rec = is.rec; is = is.is; runs = is.runs; passes = of.0; unspent = of.1; needs = met_need is.rec pool f (one_step is.rec.image is.rec.machine) of.2 }

faults : (o : Option Rec) (pool : List ℕ) (f : MachineFault) → Meets o f → IsNext o pool (Faulted (fault.Machine f))
faults o pool f is = record {
  rec = is.rec;
  is = is.is;
  runs = is.runs;
  next = ap (λ b. cond b (Some Broke) (outcome_unheld is.rec pool)) is.passes ∙ ap (λ b. cond b (Some (Faulted fault.BudgetSpent)) (outcome_of (one_step is.rec.image is.rec.machine) is.rec.machine pool is.rec.mailbox)) is.unspent ∙ ap (λ l. outcome_of l is.rec.machine pool is.rec.mailbox) is.needs;
}

pub faults_of_machine : FaultsOfMachine
faults_of_machine profile apid words es by id f =
    let w = replay profile apid words es in
    ((λ does. met (get w.records id) w.pool f (next_of w by id (Faulted (fault.Machine f)) does)), (λ is. does_next w by id (Faulted (fault.Machine f)) (faults (get w.records id) w.pool f is)))

-- ---- answers

abbrev IsFault : ℕ → Effect → ℕ → Type 0
IsFault id effect number = (f : ProcedureFault) × (effect ≡ Changed id (Stepped (Faulted f))) × (fault_number f ≡ number)

fault_made : (id number : ℕ) (outcome : InstructionOutcome) → Answered (step_outcome (Changed id (Stepped outcome))) ≡ Answered (answer.Faulted number) → IsFault id (Changed id (Stepped outcome)) number
fault_made id number Broke e = cc
fault_made id number Ran e = cc
fault_made id number (Called call) e = cc
fault_made id number Ended e = cc
fault_made id number (Faulted f) e = let same : fault_number f ≡ number = cc in (f, refl, same)

no_fault : (id number : ℕ) (failure : StartFailure) → Answered (step_outcome (Kept (Failed failure))) ≡ Answered (answer.Faulted number) → IsFault id (Kept (Failed failure)) number
no_fault id number NotLoaded e = cc
no_fault id number failure e = cc

fault_by : (id number : ℕ) (t : Turn) → Answered (step_outcome (by_turn id t)) ≡ Answered (answer.Faulted number) → IsFault id (by_turn id t) number
fault_by id number (Refuses failure) e = no_fault id number failure e
fault_by id number (Makes outcome) e = fault_made id number outcome e

pub faults_are_answered : FaultsAreAnswered
faults_are_answered w by id number e =
    subst (λ effect. IsFault id effect number) (sym (effect-turn w id)) (fault_by id number (turn_in w id) (ap (λ effect. Answered (step_outcome effect)) (sym (effect-turn w id)) ∙ e))
