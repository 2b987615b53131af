-- A slice: instruction events of one procedure, one after another, up to a budget, until it no
-- longer runs.
use Rattle.std.specs.Prelude.{◌≡◌, ◌+◌, ◌<◌, ℕ, zero, suc, Bool, true, false, if◌then◌else◌, List, Option, Some, None, is_some}
use Rattle.std.specs.FinMap.{get, insert}
use Rattle.obcp_types.specs.declared.pending.Due.{Due}
use Rattle.obcp_types.specs.declared.status.Status.{Status}
use Rattle.obcp_types.specs.declared.status.Status.TheVariants.{Inactive, Running, Held}
use Rattle.bpf_step.specs.Machine.{State}
use Rattle.bpf_step.specs.Runs.{local_run}
use Rattle.ocp_table.specs.declared.control.Control.{Control}
use Rattle.ocp_pool.specs.declared.call.Called.TheVariants as call
use Rattle.ocp_table.specs.declared.answers.Slice.{Slice}
use Rattle.ocp_table.specs.declared.answers.Round.{Round}
use Rattle.ocp_table.specs.declared.answers.Extent.{Extent}
use Rattle.ocp_table.specs.declared.answers.Extent.TheVariants as extents
use Rattle.ocp_table.specs.declared.answers.InstructionOutcome.{InstructionOutcome}
use Rattle.ocp_table.specs.declared.answers.InstructionOutcome.TheVariants.{Called}
use Rattle.ocp_table.specs.declared.answers.StepOutcome.{StepOutcome}
use Rattle.ocp_table.specs.declared.answers.StepOutcome.TheVariants as S
use Rattle.ocp_table.specs.Budgets.{less, IsWithin}
use Rattle.ocp_table.specs.Records.{Rec, Records, Procedures}
use Rattle.ocp_table.specs.Effects.{Effect, Changed, Stepped, without_pass, records_by, outbox_by, pool_by, step_outcome}
use Rattle.ocp_table.specs.RequestTable.{Step}
use Rattle.ocp_table.specs.Deciding.{effect_in}

-- ---- one event

-- what instruction events read and write
pub record Store : Type 0 where
  pub records : Records
  pub outbox : List Due
  pub pool : List ℕ

-- the store of a table and a pool
abbrev pub store_of : Procedures → List ℕ → Store
store_of t pool = record { records = t.records; outbox = t.outbox; pool = pool }

-- what an instruction event does to it
abbrev pub effect_of_event : ℕ → Store → Effect
effect_of_event id s = effect_in (Step s.pool) id s.records

-- what it leaves of it
abbrev pub store_after : ℕ → Store → Store
store_after id s = record {
  records = records_by (effect_of_event id s) s.records;
  outbox = outbox_by (effect_of_event id s) s.records s.outbox;
  pool = pool_by (effect_of_event id s) s.pool;
}

-- the answer to it
abbrev pub answer_to : ℕ → Store → StepOutcome
answer_to id s = step_outcome (effect_of_event id s)

-- ---- whether a slice goes on

-- the status is that of a running procedure
abbrev pub is_running_status : Status → Bool
is_running_status Inactive = false
is_running_status Running = true
is_running_status Held = false

-- a procedure is loaded and runs
abbrev pub is_running : Option Rec → Bool
is_running None = false
is_running (Some r) = is_running_status r.control.status

-- a procedure is loaded and is traced
abbrev pub is_traced : Option Rec → Bool
is_traced None = false
is_traced (Some r) = r.traced

-- whether a slice goes on after this outcome, as long as the procedure runs
abbrev pub is_on : StepOutcome → Bool
is_on S.Ran = true
is_on S.Called = true
is_on other = false

-- whether an instruction event is done: a refused one is not
abbrev pub is_done : StepOutcome → Bool
is_done S.NotLoaded = false
is_done S.NotRunning = false
is_done S.JournalFull = false
is_done other = true

-- whether it goes on after the next event
abbrev pub goes_on : ℕ → Store → Bool
goes_on id s =
    if is_on (answer_to id s) then is_running (get (store_after id s).records id) else false

-- ---- a slice

-- the store after n events
abbrev pub store_after_events : ℕ → ℕ → Store → Store
store_after_events id zero s = s
store_after_events id (suc n) s = store_after_events id n (store_after id s)

-- how many events there are
abbrev pub slice_count : ℕ → Store → ℕ → ℕ
slice_count id s zero = 0
slice_count id s (suc budget) =
    if goes_on id s then suc (slice_count id (store_after id s) budget) else 1

-- the answer to the last one
abbrev pub slice_last : ℕ → Store → StepOutcome → ℕ → StepOutcome
slice_last id s last zero = last
slice_last id s last (suc budget) =
    if goes_on id s then slice_last id (store_after id s) (answer_to id s) budget
    else answer_to id s

-- a slice of the procedure that this store holds under this id, with its count and its last
-- outcome, leaves this record, this outbox and this pool
pub record IsSlice (id : ℕ) (s : Store) (budget : ℕ) (slice : Slice) (r : Rec) (outbox : List Due)
    (pool : List ℕ) : Type 0 where
  pub count : slice.count ≡ slice_count id s budget
  pub last : slice.last ≡ slice_last id s S.Ran budget
  pub store : store_after_events id slice.count s ≡
      record { records = insert s.records id r; outbox = outbox; pool = pool }

-- ---- a round: a slice that also ends with the first event that ends a step

-- the step that an instruction of this outcome ends, if it ends one
abbrev pub step_ended_by : InstructionOutcome → Option ℕ
step_ended_by (Called (call.StepEnd step)) = Some step
step_ended_by outcome = None

-- the number of the step that an event ends, if it ends one
abbrev pub step_ended : Effect → Option ℕ
step_ended (Changed id (Stepped outcome)) = step_ended_by outcome
step_ended effect = None

-- the number of the step that the last of n events ends, if it ends one
abbrev pub step_at : ℕ → ℕ → Store → Option ℕ
step_at id zero s = None
step_at id (suc n) s = step_ended (effect_of_event id (store_after_events id n s))

-- how many events a round has at most: its budget, or those up to the first that ends a step
abbrev pub round_budget : ℕ → Store → ℕ → ℕ
round_budget id s zero = 0
round_budget id s (suc budget) =
    if is_some (step_ended (effect_of_event id s)) then 1
    else suc (round_budget id (store_after id s) budget)

-- how many events there are at most, by how far they go
abbrev pub most_events : Extent → ℕ → Store → ℕ → ℕ
most_events extents.Slice id s budget = budget
most_events extents.Round id s budget = round_budget id s budget

-- whether events of this extent end after one that ends this step
abbrev pub ends_with : Extent → Option ℕ → Bool
ends_with extents.Slice step = false
ends_with extents.Round step = is_some step

-- a round without the step that it ended
abbrev pub slice_of : Round → Slice
slice_of round = record { count = round.count; last = round.last }

-- none of n events ends a step
abbrev pub EndNoStep : ℕ → ℕ → Store → Type 0
EndNoStep id n s =
    (k : ℕ) → k < n → step_ended (effect_of_event id (store_after_events id k s)) ≡ None

-- ---- instructions that a machine does by itself

-- the first of them clears the pass flag
abbrev pub control_after : ℕ → Control → Control
control_after zero c = c
control_after (suc n) c = without_pass c

-- a record after n of them, which left this machine: they are taken from the budget
abbrev pub with_machine : ℕ → State → Rec → Rec
with_machine n machine r = record r {
  machine = machine;
  control = control_after n r.control;
  remaining = less n r.remaining;
}

-- the procedure under this id runs, its budget has n instructions left, and its machine does them
-- by itself, after which it is this one
pub record RunsBy (m : Records) (id : ℕ) (r : Rec) (n : ℕ) (machine : State) : Type 0 where
  pub held : get m id ≡ Some r
  pub running : r.control.status ≡ Running
  pub within : IsWithin r.remaining n
  pub ran : local_run r.image r.breakpoints r.control.pass r.machine n ≡ Some machine

-- the last answer after n more events that are each answered `Ran`, from this answer on
abbrev pub last_ran : ℕ → StepOutcome → StepOutcome
last_ran zero last = last
last_ran (suc n) last = S.Ran

-- n events lead from a store to another, after each of them a slice goes on, and the last outcome
-- so far becomes another
pub record Leads (id n : ℕ) (s : Store) (last : StepOutcome) (t : Store) (next : StepOutcome)
    : Type 0 where
  pub store : store_after_events id n s ≡ t
  pub count : (budget : ℕ) → slice_count id s (n + budget) ≡ n + slice_count id t budget
  pub outcome : (budget : ℕ) →
      slice_last id s last (n + budget) ≡ slice_last id t next budget
