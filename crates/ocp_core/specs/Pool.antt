-- The pool by the operations on it, and what the engine calls are answered by it.
use Rattle.std.specs.Prelude.{◌≡◌, ◌==◌, ◌||◌, ◌≤◌, ◌↔◌, ℕ, ℤ, unsigned_abs, Bool, true, List, [], ◌∷◌, ◌++◌, length, replicate, slice_get, Option, Some, None}
use Rattle.std.specs.FinMap.{get}
use Rattle.ocp_profile.specs.declared.profile.Profile.{Profile}
use Rattle.bpf_step.specs.declared.answer.Need.TheVariants as need
use Rattle.bpf_step.specs.Machine.{read}
use Rattle.ocp_pool.specs.declared.call.Called.{Called as Call}
use Rattle.ocp_pool.specs.declared.call.Called.TheVariants.{PoolGet, PoolSet, PoolAdd, PoolCompareSet}
use Rattle.ocp_pool.specs.declared.call.PoolOperation.{PoolOperation}
use Rattle.ocp_pool.specs.declared.call.PoolOperation.TheVariants.{Add, Set}
use Rattle.ocp_pool.specs.declared.call.PoolFault.TheVariants.{BadPoolIndex}
use Rattle.ocp_pool.specs.Call.{engine_call, operation_of, pool_with}
use Rattle.ocp_table.specs.declared.answers.InstructionOutcome.{InstructionOutcome}
use Rattle.ocp_table.specs.declared.answers.InstructionOutcome.TheVariants.{Called, Faulted}
use Rattle.ocp_table.specs.declared.fault.ProcedureFault.TheVariants as fault
use Rattle.ocp_table.specs.Records.{Rec}
use Rattle.ocp_table.specs.Effects.{Effect, Changed, Change, Stepped, WordPut}
use Rattle.ocp_world.specs.World.{Event}
use Rattle.ocp_world.specs.Replay.{replay}
use Rattle.ocp_core.specs.History.{history, gather, Does, NeedsNext}

-- ---- the operations

abbrev pub operation_by_outcome : InstructionOutcome → Option PoolOperation
operation_by_outcome (Called call) = operation_of call
operation_by_outcome outcome = None

abbrev pub operation_by_change : Change → Option PoolOperation
operation_by_change (Stepped outcome) = operation_by_outcome outcome
operation_by_change change = None

abbrev pub operation_by : Effect → Option PoolOperation
operation_by (Changed id change) = operation_by_change change
operation_by (WordPut index value) = Some (Set index value)
operation_by effect = None

abbrev pub with_operation : Option PoolOperation → List PoolOperation → List PoolOperation
with_operation None operations = operations
with_operation (Some operation) operations = operations ++ operation ∷ []

abbrev pub add_operation : Effect → List PoolOperation → List PoolOperation
add_operation effect operations = with_operation (operation_by effect) operations

-- the operations of all procedures, and the writes from outside, each of which sets its word, in
-- the order of the events
abbrev pub operations : Profile → ℕ → ℕ → List Event → List PoolOperation
operations profile apid words es = gather add_operation [] (history profile apid words es)

-- ---- the pool

abbrev pub pool_from : List ℕ → List PoolOperation → List ℕ
pool_from pool [] = pool
pool_from pool (operation ∷ operations) = pool_from (pool_with operation pool) operations

-- the pool of `words` words, all of them 0 at first, after operations: engine calls of procedures
-- and writes from outside
abbrev pub pool_after : ℕ → List PoolOperation → List ℕ
pool_after words operations = pool_from (replicate words 0) operations

-- the law: the pool is that of the operations alone
abbrev pub PoolIsOfOperations : Type 0
PoolIsOfOperations =
    (profile : Profile) (apid words : ℕ) (es : List Event) →
    (replay profile apid words es).pool ≡ pool_after words (operations profile apid words es)

-- ---- engine calls

-- the next instruction of a procedure is an engine call of this number
abbrev pub Calls : Option Rec → ℤ → Type 0
Calls o number = NeedsNext o (need.Call number)

-- the call is answered by the table of the engine calls, from R1, R2, R3, this pool and its mailbox
pub record IsAnswered (o : Option Rec) (pool : List ℕ) (call : Call) : Type 0 where
  pub number : ℤ
  pub calls : Calls o number
  pub given : engine_call number (read calls.rec.machine 1) (read calls.rec.machine 2)
      (read calls.rec.machine 3) pool calls.rec.mailbox ≡ Some call

-- the law: each engine call is answered in this way, on the pool of the operations before it
abbrev pub CallsAreAnswered : Type 0
CallsAreAnswered =
    (profile : Profile) (apid words : ℕ) (es : List Event) (by id : ℕ) (call : Call) →
    let w = replay profile apid words es in
    Does w by id (Called call) →
    IsAnswered (get w.records id) (pool_after words (operations profile apid words es)) call

-- pool_get, pool_set and pool_compare_set answer the word at their index, and pool_add the word
-- that it leaves there
abbrev pub AnswersWord : List ℕ → Call → Type 0
AnswersWord pool (PoolGet index word) = slice_get pool index ≡ Some word
AnswersWord pool (PoolSet index value old) = slice_get pool index ≡ Some old
AnswersWord pool (PoolAdd index value new) =
    slice_get (pool_with (Add index value) pool) index ≡ Some new
AnswersWord pool (PoolCompareSet index expected value old) = slice_get pool index ≡ Some old
AnswersWord pool call = Unit {0}

-- the law: on the pool of the operations before the call
abbrev pub CallsAnswerWords : Type 0
CallsAnswerWords =
    (profile : Profile) (apid words : ℕ) (es : List Event) (by id : ℕ) (call : Call) →
    Does (replay profile apid words es) by id (Called call) →
    AnswersWord (pool_after words (operations profile apid words es)) call

-- the numbers of pool_get, pool_set, pool_add and pool_compare_set
abbrev pub is_pool_call : ℕ → Bool
is_pool_call n = (n == 1) || (n == 2) || (n == 3) || (n == 6)

-- a call of one of them with an index that is not below the number of pool words
pub record IsOutside (o : Option Rec) (pool : List ℕ) : Type 0 where
  pub number : ℤ
  pub calls : Calls o number
  pub of_pool : is_pool_call (unsigned_abs number) ≡ true
  pub outside : length pool ≤ read calls.rec.machine 1

-- the law: BadPoolIndex is the fault of such a call, and of nothing else
abbrev pub FaultsOutside : Type 0
FaultsOutside =
    (profile : Profile) (apid words : ℕ) (es : List Event) (by id : ℕ) →
    let w = replay profile apid words es in
    Does w by id (Faulted (fault.Pool BadPoolIndex)) ↔
    IsOutside (get w.records id) (pool_after words (operations profile apid words es))
