-- The engine calls, on lists: what a call did, what it answers, and what it does to pool and
-- mailbox.
use Rattle.std.specs.Prelude.{ℕ, ◌+◌, ◌%◌, ◌^◌, ℤ, ◌==◌, if◌then◌else◌, List, drop, slice_get, slice_index, slice_set, unsigned_abs, Option, Some, None, Result, Ok, Err}
use Rattle.ocp_pool.specs.declared.call.Called.{Called}
use Rattle.ocp_pool.specs.declared.call.Called.TheVariants.{PoolGet, PoolSet, PoolAdd, NextParam, StepEnd, PoolCompareSet}
use Rattle.ocp_pool.specs.declared.call.PoolOperation.{PoolOperation}
use Rattle.ocp_pool.specs.declared.call.PoolOperation.TheVariants.{Set, Add, CompareSet}
use Rattle.ocp_pool.specs.declared.call.PoolFault.{PoolFault}
use Rattle.ocp_pool.specs.declared.call.PoolFault.TheVariants.{BadPoolIndex}

-- call 1: the word at the index R1
abbrev pub pool_get : ℕ → Option ℕ → Option Called
pool_get r1 (Some word) = Some (PoolGet r1 word)
pool_get r1 None = None

-- call 2: the word at the index R1 becomes R2
abbrev pub pool_set : ℕ → ℕ → Option ℕ → Option Called
pool_set r1 r2 (Some old) = Some (PoolSet r1 r2 old)
pool_set r1 r2 None = None

-- call 3: R2 is added to the word at the index R1, modulo 2 ^ 64
abbrev pub pool_add : ℕ → ℕ → Option ℕ → Option Called
pool_add r1 r2 (Some old) = Some (PoolAdd r1 r2 ((old + r2) % 2 ^ 64))
pool_add r1 r2 None = None

-- call 6: the word at the index R1 becomes R3 if it equals R2
abbrev pub pool_compare_set : ℕ → ℕ → ℕ → Option ℕ → Option Called
pool_compare_set r1 r2 r3 (Some old) = Some (PoolCompareSet r1 r2 r3 old)
pool_compare_set r1 r2 r3 None = None

-- what the call of a number, 1 to 6, does, by R1, R2, R3, the pool's words and the mailbox's words;
-- none if the index is no pool word's
abbrev pub engine_call : ℤ → ℕ → ℕ → ℕ → List ℕ → List ℕ → Option Called
engine_call number r1 r2 r3 pool mailbox =
    if unsigned_abs number == 1 then pool_get r1 (slice_get pool r1)
    else if unsigned_abs number == 2 then pool_set r1 r2 (slice_get pool r1)
    else if unsigned_abs number == 3 then pool_add r1 r2 (slice_get pool r1)
    else if unsigned_abs number == 4 then Some (NextParam (slice_get mailbox 0))
    else if unsigned_abs number == 6 then pool_compare_set r1 r2 r3 (slice_get pool r1)
    else Some (StepEnd (r1 % 2 ^ 16))

-- a call that finds no word is the fault BadPoolIndex
abbrev pub result_of : Option Called → Result Called PoolFault
result_of (Some called) = Ok called
result_of None = Err BadPoolIndex

-- the number of the fault, after those of the machine
abbrev pub fault_number : PoolFault → ℕ
fault_number BadPoolIndex = 4

-- the number of a call
abbrev pub number_of : Called → ℕ
number_of (PoolGet index word) = 1
number_of (PoolSet index value old) = 2
number_of (PoolAdd index value new) = 3
number_of (NextParam word) = 4
number_of (StepEnd step) = 5
number_of (PoolCompareSet index expected value old) = 6

-- next_param answers 1 if there was a word
abbrev pub was_there : Option ℕ → ℕ
was_there (Some word) = 1
was_there None = 0

-- what a call answers in R0
abbrev pub r0_of : Called → ℕ
r0_of (PoolGet index word) = word
r0_of (PoolSet index value old) = old
r0_of (PoolAdd index value new) = new
r0_of (NextParam word) = was_there word
r0_of (StepEnd step) = 0
r0_of (PoolCompareSet index expected value old) = old

-- what a call answers in R1, if it writes it
abbrev pub r1_of : Called → Option ℕ
r1_of (NextParam word) = word
r1_of _ = None

-- what a call does to the pool, if anything
abbrev pub operation_of : Called → Option PoolOperation
operation_of (PoolSet index value old) = Some (Set index value)
operation_of (PoolAdd index value new) = Some (Add index value)
operation_of (PoolCompareSet index expected value old) = Some (CompareSet index expected value)
operation_of _ = None

-- the pool after an operation
abbrev pub pool_with : PoolOperation → List ℕ → List ℕ
pool_with (Set index value) pool = slice_set pool index value
pool_with (Add index value) pool = slice_set pool index ((slice_index pool index + value) % 2 ^ 64)
pool_with (CompareSet index expected value) pool =
    if slice_index pool index == expected then slice_set pool index value else pool

-- the pool after an operation, if there is one
abbrev pub pool_after_operation : Option PoolOperation → List ℕ → List ℕ
pool_after_operation (Some operation) pool = pool_with operation pool
pool_after_operation None pool = pool

-- the pool after a call
abbrev pub pool_after : Called → List ℕ → List ℕ
pool_after called pool = pool_after_operation (operation_of called) pool

-- the mailbox after a call: next_param takes the oldest word out
abbrev pub mailbox_after : Called → List ℕ → List ℕ
mailbox_after (NextParam word) mailbox = drop 1 mailbox
mailbox_after _ mailbox = mailbox

-- a call that is refused changes nothing
abbrev pub pool_by : Option Called → List ℕ → List ℕ
pool_by (Some called) pool = pool_after called pool
pool_by None pool = pool

abbrev pub mailbox_by : Option Called → List ℕ → List ℕ
mailbox_by (Some called) mailbox = mailbox_after called mailbox
mailbox_by None mailbox = mailbox
