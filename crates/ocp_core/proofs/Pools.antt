-- The pool of a replay, and the answers of engine calls.
use Rattle.std.proofs.Common.{◌≡◌, ◌≤◌, ◌<◌, ◌+◌, ℕ, ℤ, List, [], ◌∷◌, ◌++◌, Option, Some, None, Bool, true, false, cond, inl, inr, refl, sym, ap, subst, ◌∙◌, replicate, length}
use Rattle.std.specs.Prelude.{◌==◌, ◌||◌, ◌↔◌, ◌%◌, ◌^◌, slice_get, slice_index, slice_set, unsigned_abs}
use Rattle.std.specs.FinMap.{get}
use Rattle.std.proofs.lemmas.Bool.{eqb-true}
use Rattle.std.proofs.lemmas.Option.{slice_get_past, slice_get_cases, slice_get_within, slice_get-get_or, get_or_from_slice_get}
use Rattle.std.proofs.lemmas.List.{get_or-set_same, length-set}
use Rattle.bpf_step.specs.declared.answer.Need.TheVariants as need
use Rattle.bpf_step.specs.Machine.{Outcome, Next, Needs, NoInstruction, read}
use Rattle.bpf_step.specs.Runs.{breaks_at}
use Rattle.bpf_step.specs.Step.{one_step}
use Rattle.ocp_pool.specs.declared.call.Called.{Called as Call}
use Rattle.ocp_pool.specs.declared.call.PoolFault.TheVariants.{BadPoolIndex}
use Rattle.ocp_pool.specs.declared.call.Called.TheVariants.{NextParam, StepEnd}
use Rattle.ocp_pool.specs.declared.call.PoolOperation.{PoolOperation}
use Rattle.ocp_pool.specs.Call.{engine_call, pool_get, pool_set, pool_add, pool_compare_set, pool_with, pool_after_operation}
use Rattle.ocp_table.specs.declared.answers.InstructionOutcome.{InstructionOutcome}
use Rattle.ocp_table.specs.declared.answers.InstructionOutcome.TheVariants.{Broke, Called, Faulted}
use Rattle.ocp_table.specs.declared.fault.ProcedureFault.TheVariants.{BudgetSpent, Pool}
use Rattle.ocp_table.specs.Budgets.{is_spent}
use Rattle.ocp_table.specs.Records.{Rec}
use Rattle.ocp_table.specs.Effects.{Effect, Changed, WordPut, Change, Stepped, pool_by, pool_by_change, pool_by_outcome}
use Rattle.ocp_table.specs.RequestTable.{Step, transition}
use Rattle.ocp_table.specs.Deciding.{outcome_in, outcome_unheld, outcome_of, outcome_of_call, effect_on, effect_by, effect_of_step, is_full}
use Rattle.ocp_world.specs.World.{World, opening}
use Rattle.ocp_world.specs.Replay.{replay}
use Rattle.ocp_core.specs.History.{Does}
use Rattle.ocp_core.specs.Pool.{operation_by, operation_by_change, operation_by_outcome, with_operation, add_operation, operations, pool_from, pool_after, PoolIsOfOperations, IsAnswered, CallsAreAnswered, AnswersWord, CallsAnswerWords, is_pool_call, IsOutside, FaultsOutside}
use Rattle.ocp_core.proofs.Honest.{IsNext, IsHonest, honest_in}
use Rattle.ocp_core.proofs.Arguments.{AreFew}
use Rattle.ocp_core.proofs.Carried.{carried}

-- ---- the pool

pool_from-append : (pool : List ℕ) (xs ys : List PoolOperation) → pool_from pool (xs ++ ys) ≡ pool_from (pool_from pool xs) ys
pool_from-append pool [] ys = refl
pool_from-append pool (x ∷ xs) ys = pool_from-append (pool_with x pool) xs ys

pool_by_outcome-operation : (outcome : InstructionOutcome) (pool : List ℕ) → pool_by_outcome outcome pool ≡ pool_after_operation (operation_by_outcome outcome) pool
pool_by_outcome-operation (Called call) pool = refl
pool_by_outcome-operation outcome pool = refl

pool_by_change-operation : (change : Change) (pool : List ℕ) → pool_by_change change pool ≡ pool_after_operation (operation_by_change change) pool
pool_by_change-operation (Stepped outcome) pool = pool_by_outcome-operation outcome pool
pool_by_change-operation change pool = refl

pool_by-operation : (effect : Effect) (pool : List ℕ) → pool_by effect pool ≡ pool_after_operation (operation_by effect) pool
pool_by-operation (Changed id change) pool = pool_by_change-operation change pool
pool_by-operation (WordPut index value) pool = refl
pool_by-operation effect pool = refl

one_more : (start pool : List ℕ) (os : List PoolOperation) (o : Option PoolOperation) → pool ≡ pool_from start os → pool_after_operation o pool ≡ pool_from start (with_operation o os)
one_more start pool os None is = is
one_more start pool os (Some o) is = ap (pool_with o) is ∙ sym (pool_from-append start os (o ∷ []))

pub pool_is : PoolIsOfOperations
pool_is profile apid words es = carried {T = ℕ} add_operation (λ effect t. t) (λ w os t. w.pool ≡ pool_from (replicate words 0) os)
    (λ w os t effect honest is. pool_by-operation effect.on_records w.pool ∙ one_more (replicate words 0) w.pool os (operation_by effect.on_records) is)
    (opening profile apid words) [] 0 es refl

-- ---- what an instruction event is for its procedure

-- it is that of the record's next instruction
pub next_of : (w : World) (by id : ℕ) (outcome : InstructionOutcome) → Does w by id outcome → IsNext (get w.records id) w.pool outcome
next_of w by id outcome is = subst (IsHonest w.profile w.records w.pool) is (honest_in AreFew w.profile w.records w.pool (Step w.pool) id refl)

-- and that instruction is done
pub does_next : (w : World) (by id : ℕ) (outcome : InstructionOutcome) → IsNext (get w.records id) w.pool outcome → Does w by id outcome
does_next w by id outcome is =
    ap (λ o. effect_on (Step w.pool) id o (is_full w.records)) is.is
    ∙ ap (λ s. effect_by (transition (Step w.pool) (Some s) is.rec.control.pending (length is.rec.mailbox)) id (Some is.rec) (is_full w.records)) is.runs
    ∙ ap (λ o. effect_of_step o id) is.next

-- ---- an engine call that was answered

module _ (r : Rec) (pool : List ℕ) where
  -- an outcome other than a breakpoint and a spent budget is that of the machine's instruction
  module _ (outcome : InstructionOutcome) where
    abbrev result : Option InstructionOutcome
    result = outcome_of (one_step r.image r.machine) r.machine pool r.mailbox

    abbrev IsOfMachine : Type 0
    IsOfMachine = (breaks_at r.control.pass r.breakpoints r.machine.place ≡ false) × (is_spent r.remaining ≡ false) × (result ≡ Some outcome)

    unspent : (b : Bool) → is_spent r.remaining ≡ b → (Some (Faulted BudgetSpent) ≡ Some outcome → ⊥) → cond b (Some (Faulted BudgetSpent)) result ≡ Some outcome → (is_spent r.remaining ≡ false) × (result ≡ Some outcome)
    unspent true is differs e = absurd (differs e)
    unspent false is differs e = (is, e)

    not_held : (b : Bool) → breaks_at r.control.pass r.breakpoints r.machine.place ≡ b → (Some Broke ≡ Some outcome → ⊥) → (Some (Faulted BudgetSpent) ≡ Some outcome → ⊥) → cond b (Some Broke) (outcome_unheld r pool) ≡ Some outcome → IsOfMachine
    not_held true is differs differs_spent e = absurd (differs e)
    not_held false is differs differs_spent e = let here = unspent (is_spent r.remaining) refl differs_spent e in (is, here.0, here.1)

    pub of_machine : (Some Broke ≡ Some outcome → ⊥) → (Some (Faulted BudgetSpent) ≡ Some outcome → ⊥) → outcome_in r pool ≡ Some outcome → IsOfMachine
    of_machine differs differs_spent e = not_held (breaks_at r.control.pass r.breakpoints r.machine.place) refl differs differs_spent e

  abbrev pub answer_of : ℤ → Option Call
  answer_of number = engine_call number (read r.machine 1) (read r.machine 2) (read r.machine 3) pool r.mailbox

  answered_call : (call : Call) (c : Option Call) → Some (outcome_of_call c) ≡ Some (Called call) → c ≡ Some call
  answered_call call (Some other) e = cc
  answered_call call None e = cc

  pub answered_need : (call : Call) (l : Outcome) → outcome_of l r.machine pool r.mailbox ≡ Some (Called call) → (number : ℤ) × (l ≡ Needs (need.Call number)) × (answer_of number ≡ Some call)
  answered_need call (Next s) e = cc
  answered_need call (Needs need.LastExit) e = cc
  answered_need call (Needs (need.Fault fault)) e = cc
  answered_need call (Needs (need.Call number)) e = (number, refl, answered_call call (answer_of number) e)
  answered_need call NoInstruction e = cc

pub answered : (o : Option Rec) (pool : List ℕ) (call : Call) → IsNext o pool (Called call) → IsAnswered o pool call
answered o pool call is =
    let of : IsOfMachine is.rec pool (Called call) = of_machine is.rec pool (Called call) (λ e. cc) (λ e. cc) is.next in
    let found = answered_need is.rec pool call (one_step is.rec.image is.rec.machine) of.2 in
    record { number = found.0; calls = record { rec = is.rec; is = is.is; runs = is.runs; passes = of.0; unspent = of.1; needs = found.1 }; given = found.2 }

pub calls_are_answered : CallsAreAnswered
calls_are_answered profile apid words es by id call does =
    subst (λ p. IsAnswered (get (replay profile apid words es).records id) p call) (pool_is profile apid words es)
    (answered (get (replay profile apid words es).records id) (replay profile apid words es).pool call (next_of (replay profile apid words es) by id (Called call) does))

-- ---- the words that calls answer

abbrev AnswersWordIf : List ℕ → Option Call → Type 0
AnswersWordIf pool None = Unit {0}
AnswersWordIf pool (Some call) = AnswersWord pool call

set_gives : (pool : List ℕ) (index word value : ℕ) → slice_get pool index ≡ Some word → slice_get (slice_set pool index ((slice_index pool index + value) % 2 ^ 64)) index ≡ Some ((word + value) % 2 ^ 64)
set_gives pool index word value is =
    let within : index < length pool = slice_get_within pool index word is in
    let there : slice_index pool index ≡ word = get_or_from_slice_get pool index word 0 is in
    let new = (slice_index pool index + value) % 2 ^ 64 in
    slice_get-get_or (slice_set pool index new) index 0 (subst (λ n. index < n) (sym (length-set pool index new)) within)
    ∙ ap Some (get_or-set_same pool index new 0 within ∙ ap (λ old. (old + value) % 2 ^ 64) there)

module _ (number : ℤ) (r1 r2 r3 : ℕ) (pool mailbox : List ℕ) where
  word_get : (o : Option ℕ) → slice_get pool r1 ≡ o → AnswersWordIf pool (pool_get r1 o)
  word_get None is = tt
  word_get (Some word) is = is

  word_set : (o : Option ℕ) → slice_get pool r1 ≡ o → AnswersWordIf pool (pool_set r1 r2 o)
  word_set None is = tt
  word_set (Some word) is = is

  word_add : (o : Option ℕ) → slice_get pool r1 ≡ o → AnswersWordIf pool (pool_add r1 r2 o)
  word_add None is = tt
  word_add (Some word) is = set_gives pool r1 word r2 is

  word_compare : (o : Option ℕ) → slice_get pool r1 ≡ o → AnswersWordIf pool (pool_compare_set r1 r2 r3 o)
  word_compare None is = tt
  word_compare (Some word) is = is

  either : (b : Bool) (x y : Option Call) → AnswersWordIf pool x → AnswersWordIf pool y → AnswersWordIf pool (cond b x y)
  either true x y p q = p
  either false x y p q = q

  gives_word : AnswersWordIf pool (engine_call number r1 r2 r3 pool mailbox)
  gives_word =
      either (unsigned_abs number == 1) _ _ (word_get (slice_get pool r1) refl)
      (either (unsigned_abs number == 2) _ _ (word_set (slice_get pool r1) refl)
      (either (unsigned_abs number == 3) _ _ (word_add (slice_get pool r1) refl)
      (either (unsigned_abs number == 4) _ _ tt
      (either (unsigned_abs number == 6) _ _ (word_compare (slice_get pool r1) refl) tt))))

answers_word : (o : Option Rec) (pool : List ℕ) (call : Call) → IsAnswered o pool call → AnswersWord pool call
answers_word o pool call a = subst (AnswersWordIf pool) a.given (gives_word a.number (read a.calls.rec.machine 1) (read a.calls.rec.machine 2) (read a.calls.rec.machine 3) pool a.calls.rec.mailbox)

pub calls_answer_words : CallsAnswerWords
calls_answer_words profile apid words es by id call does = answers_word (get (replay profile apid words es).records id) (pool_after words (operations profile apid words es)) call (calls_are_answered profile apid words es by id call does)

-- ---- fault 4

past : (xs : List ℕ) (i : ℕ) → slice_get xs i ≡ None → length xs ≤ i
past xs i none = elim (slice_get_cases xs i).1 [
  | inl found ↦ absurd (let e : Some found.0 ≡ None = sym found.2 ∙ none in cc)
  | inr beyond ↦ beyond.0
]

-- a call of this number finds no word
record FindsNone (k r1 : ℕ) (pool : List ℕ) : Type 0 where
  of_pool : is_pool_call k ≡ true
  none : slice_get pool r1 ≡ None

module _ (r1 r2 r3 : ℕ) (pool mailbox : List ℕ) where
  none_get : (o : Option ℕ) → pool_get r1 o ≡ None → o ≡ None
  none_get None e = refl
  none_get (Some word) e = cc

  none_set : (o : Option ℕ) → pool_set r1 r2 o ≡ None → o ≡ None
  none_set None e = refl
  none_set (Some word) e = cc

  none_add : (o : Option ℕ) → pool_add r1 r2 o ≡ None → o ≡ None
  none_add None e = refl
  none_add (Some word) e = cc

  none_compare : (o : Option ℕ) → pool_compare_set r1 r2 r3 o ≡ None → o ≡ None
  none_compare None e = refl
  none_compare (Some word) e = cc

  abbrev by_number : Bool → Bool → Bool → Bool → Bool → Option Call
  by_number a b c d f = cond a (pool_get r1 (slice_get pool r1)) (cond b (pool_set r1 r2 (slice_get pool r1)) (cond c (pool_add r1 r2 (slice_get pool r1)) (cond d (Some (NextParam (slice_get mailbox 0))) (cond f (pool_compare_set r1 r2 r3 (slice_get pool r1)) (Some (StepEnd (r1 % 2 ^ 16)))))))

  finds_none_by : (a b c d f : Bool) → by_number a b c d f ≡ None → ((a || b || c || f) ≡ true) × (slice_get pool r1 ≡ None)
  finds_none_by true b c d f e = (refl, none_get (slice_get pool r1) e)
  finds_none_by false true c d f e = (refl, none_set (slice_get pool r1) e)
  finds_none_by false false true d f e = (refl, none_add (slice_get pool r1) e)
  finds_none_by false false false true f e = cc
  finds_none_by false false false false true e = (refl, none_compare (slice_get pool r1) e)
  finds_none_by false false false false false e = cc

  finds_none : (number : ℤ) → engine_call number r1 r2 r3 pool mailbox ≡ None → FindsNone (unsigned_abs number) r1 pool
  finds_none number e =
      let k = unsigned_abs number in
      let found = finds_none_by (k == 1) (k == 2) (k == 3) (k == 4) (k == 6) e in
      record { of_pool = found.0; none = found.1 }

  none_by : (a b c d f : Bool) → (d ≡ true → f ≡ false) → (a || b || c || f) ≡ true → slice_get pool r1 ≡ None → by_number a b c d f ≡ None
  none_by true b c d f apart is none = ap (pool_get r1) none
  none_by false true c d f apart is none = ap (pool_set r1 r2) none
  none_by false false true d f apart is none = ap (pool_add r1 r2) none
  none_by false false false true f apart is none = absurd (contrary (sym is ∙ apart refl))
    where
      contrary : true ≡ false → ⊥
      contrary e = cc
  none_by false false false false true apart is none = ap (pool_compare_set r1 r2 r3) none
  none_by false false false false false apart is none = cc

  gives_none : (number : ℤ) → FindsNone (unsigned_abs number) r1 pool → engine_call number r1 r2 r3 pool mailbox ≡ None
  gives_none number is =
      let k = unsigned_abs number in
      none_by (k == 1) (k == 2) (k == 3) (k == 4) (k == 6) (λ four. subst (λ n. (n == 6) ≡ false) (sym (eqb-true k 4 four)) refl) is.of_pool is.none

module _ (r : Rec) (pool : List ℕ) where
  outside_call : (c : Option Call) → Some (outcome_of_call c) ≡ Some (Faulted (Pool BadPoolIndex)) → c ≡ None
  outside_call (Some call) e = cc
  outside_call None e = refl

  outside_need : (l : Outcome) → outcome_of l r.machine pool r.mailbox ≡ Some (Faulted (Pool BadPoolIndex)) → (number : ℤ) × (l ≡ Needs (need.Call number)) × (answer_of r pool number ≡ None)
  outside_need (Next s) e = cc
  outside_need (Needs need.LastExit) e = cc
  outside_need (Needs (need.Fault fault)) e = cc
  outside_need (Needs (need.Call number)) e = (number, refl, outside_call (answer_of r pool number) e)
  outside_need NoInstruction e = cc

outside : (o : Option Rec) (pool : List ℕ) → IsNext o pool (Faulted (Pool BadPoolIndex)) → IsOutside o pool
outside o pool is =
    let of : IsOfMachine is.rec pool (Faulted (Pool BadPoolIndex)) = of_machine is.rec pool (Faulted (Pool BadPoolIndex)) (λ e. cc) (λ e. cc) is.next in
    let found = outside_need is.rec pool (one_step is.rec.image is.rec.machine) of.2 in
    let none = finds_none (read is.rec.machine 1) (read is.rec.machine 2) (read is.rec.machine 3) pool is.rec.mailbox found.0 found.2 in
    record { number = found.0; calls = record { rec = is.rec; is = is.is; runs = is.runs; passes = of.0; unspent = of.1; needs = found.1 }; of_pool = none.of_pool; outside = past pool (read is.rec.machine 1) none.none }

faults : (o : Option Rec) (pool : List ℕ) → IsOutside o pool → IsNext o pool (Faulted (Pool BadPoolIndex))
faults o pool is =
    let r = is.calls.rec in
    let none : answer_of r pool is.number ≡ None = gives_none (read r.machine 1) (read r.machine 2) (read r.machine 3) pool r.mailbox is.number (record { of_pool = is.of_pool; none = slice_get_past pool (read r.machine 1) is.outside }) in
    record {
      rec = r;
      is = is.calls.is;
      runs = is.calls.runs;
      next = ap (λ b. cond b (Some Broke) (outcome_unheld r pool)) is.calls.passes ∙ ap (λ b. cond b (Some (Faulted BudgetSpent)) (outcome_of (one_step r.image r.machine) r.machine pool r.mailbox)) is.calls.unspent ∙ ap (λ l. outcome_of l r.machine pool r.mailbox) is.calls.needs ∙ ap (λ c. Some (outcome_of_call c)) none;
    }

pub faults_outside : FaultsOutside
faults_outside profile apid words es by id =
    let w = replay profile apid words es in
    subst (λ p. Does w by id (Faulted (Pool BadPoolIndex)) ↔ IsOutside (get w.records id) p) (pool_is profile apid words es)
    ((λ does. outside (get w.records id) w.pool (next_of w by id (Faulted (Pool BadPoolIndex)) does)), (λ is. does_next w by id (Faulted (Pool BadPoolIndex)) (faults (get w.records id) w.pool is)))
