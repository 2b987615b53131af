-- What an event does to the records, with all values that it writes. Each part of a record follows
-- from it by cases.
use Rattle.std.specs.Prelude.{ℕ, ◌==◌, ◌||◌, Bool, true, false, not, nat_lt, if◌then◌else◌, List, [], ◌∷◌, ◌++◌, slice_set, Option, Some, None, Result, Ok, Err}
use Rattle.std.specs.List.{filter}
use Rattle.std.specs.FinMap.{get, insert, remove}
use Rattle.obcp_types.specs.declared.failure.CompletionFailure.TheVariants.{Overtaken}
use Rattle.obcp_types.specs.declared.failure.StartFailure.{StartFailure}
use Rattle.obcp_types.specs.declared.failure.StartFailure.TheVariants as failure
use Rattle.obcp_types.specs.declared.pending.Due.{Due}
use Rattle.obcp_types.specs.declared.pending.PendingOrigin.{PendingOrigin}
use Rattle.obcp_types.specs.declared.status.Status.TheVariants.{Inactive, Running, Held}
use Rattle.verification.specs.Reports.{wants_completion}
use Rattle.ocp_profile.specs.declared.profile.Profile.{Profile}
use Rattle.bpf_step.specs.Machine.{State, Outcome, Next, Needs, NoInstruction}
use Rattle.bpf_step.specs.Machine.{machine_at_start, machine_at_restart}
use Rattle.bpf_step.specs.Step.{one_step}
use Rattle.bpf_step.specs.Calls.{state_after_engine_call}
use Rattle.ocp_pool.specs.declared.call.Called.{Called as Call}
use Rattle.ocp_pool.specs.declared.call.Called.TheVariants as call
use Rattle.ocp_pool.specs.Call.{r0_of, r1_of, pool_after, mailbox_after}
use Rattle.ocp_table.specs.declared.control.Control.{Control}
use Rattle.ocp_table.specs.declared.control.Cause.{Cause}
use Rattle.ocp_table.specs.declared.control.Cause.TheVariants as cause
use Rattle.ocp_table.specs.declared.control.Pending.{Pending}
use Rattle.ocp_table.specs.declared.control.Pending.TheVariants as pending
use Rattle.ocp_table.specs.declared.answers.InstructionOutcome.{InstructionOutcome}
use Rattle.ocp_table.specs.declared.answers.InstructionOutcome.TheVariants.{Broke, Ran, Called, Ended, Faulted}
use Rattle.ocp_table.specs.declared.answers.StepOutcome.{StepOutcome}
use Rattle.ocp_table.specs.declared.answers.StepOutcome.TheVariants as step
use Rattle.ocp_table.specs.Records.{Rec, Records, Procedures}
use Rattle.ocp_table.specs.Faults.{fault_number}
use Rattle.ocp_table.specs.Budgets.{budget_of, one_less}

-- what an event does to the record of its procedure: it is started with a budget (0 is none) and
-- arguments; it is sent words; a stop or suspend becomes pending; it is made inactive; it runs on;
-- an instruction event is done; or a debugger sets or clears a breakpoint or sets the trace flag
pub data Change : Type 0 where
  Started : ℕ → List ℕ → Change
  Sent : List ℕ → Change
  Pended : Pending → Change
  Quit : Cause → Change
  Resumed : Change
  Stepped : InstructionOutcome → Change
  BreakSet : ℕ → Change
  BreakCleared : ℕ → Change
  TraceSet : Bool → Change

-- why an event leaves all records: nothing was asked of a procedure, or what was asked failed
pub data Why : Type 0 where
  Unasked : Why
  Failed : StartFailure → Why

-- what an event does to the records, to the outbox and to the pool: a procedure is loaded, by a
-- profile and an image, unloaded or changed; the outbox is emptied; the pool word at an index is
-- set to a value from outside; or all of it stays
pub data Effect : Type 0 where
  Loaded : Profile → ℕ → List ℕ → Effect
  Unloaded : ℕ → Effect
  Changed : ℕ → Change → Effect
  Drained : Effect
  WordPut : ℕ → ℕ → Effect
  Kept : Why → Effect

-- ---- the parts of a record after a change

-- the machine after an outcome: it stays if no next one is given
abbrev pub machine_after : Outcome → State → State
machine_after (Next s) m = s
machine_after (Needs need) m = m
machine_after NoInstruction m = m

abbrev pub machine_by_outcome : InstructionOutcome → List ℕ → State → State
machine_by_outcome Ran image m = machine_after (one_step image m) m
machine_by_outcome (Called call) image m = state_after_engine_call m (r0_of call) (r1_of call)
machine_by_outcome outcome image m = m

abbrev pub machine_by : Change → List ℕ → State → State
machine_by (Started budget arguments) image m = machine_at_restart arguments m
machine_by (Stepped outcome) image m = machine_by_outcome outcome image m
machine_by change image m = m

abbrev pub mailbox_by_outcome : InstructionOutcome → List ℕ → List ℕ
mailbox_by_outcome (Called call) mailbox = mailbox_after call mailbox
mailbox_by_outcome outcome mailbox = mailbox

abbrev pub mailbox_by : Change → List ℕ → List ℕ
mailbox_by (Started budget arguments) mailbox = []
mailbox_by (Sent words) mailbox = mailbox ++ words
mailbox_by (Stepped outcome) mailbox = mailbox_by_outcome outcome mailbox
mailbox_by change mailbox = mailbox

-- the control of a procedure that was started, and of one that became inactive: nothing is pending
abbrev pub running : Control
running =
    record { status = Running; pending = pending.Nothing; pass = false; cause = cause.Nothing }

abbrev pub inactive : Cause → Control
inactive cause =
    record { status = Inactive; pending = pending.Nothing; pass = false; cause = cause }

-- a procedure that becomes held: at a breakpoint what is pending stays, at the end of a step it is
-- done
abbrev pub control_on_hold : Pending → Control → Control
control_on_hold pending c =
    record { status = Held; pending = pending; pass = false; cause = c.cause }

-- an instruction was done: the pass flag is cleared
abbrev pub without_pass : Control → Control
without_pass c = record { status = c.status; pending = c.pending; pass = false; cause = c.cause }

-- a pending stop or suspend at the end of any step (0) or of this one is done when a step ends
abbrev pub matches : ℕ → ℕ → Bool
matches wanted step = (wanted == 0) || (wanted == step)

-- the end of a step
abbrev pub control_at_step_end : Pending → ℕ → Control → Control
control_at_step_end pending.Nothing k c = without_pass c
control_at_step_end (pending.Stop s from) k c =
    if matches s k then inactive cause.Stopped else without_pass c
control_at_step_end (pending.Suspend s from) k c =
    if matches s k then control_on_hold pending.Nothing c else without_pass c

abbrev pub control_by_call : Call → Control → Control
control_by_call (call.StepEnd k) c = control_at_step_end c.pending k c
control_by_call other c = without_pass c

abbrev pub control_by_outcome : InstructionOutcome → Control → Control
control_by_outcome Broke c = control_on_hold c.pending c
control_by_outcome Ran c = without_pass c
control_by_outcome (Called call) c = control_by_call call c
control_by_outcome Ended c = inactive cause.Exited
control_by_outcome (Faulted fault) c = inactive (cause.Fault fault)

abbrev pub control_by : Change → Control → Control
control_by (Started budget arguments) c = running
control_by (Sent words) c = c
control_by (Pended pending) c =
    record { status = c.status; pending = pending; pass = c.pass; cause = c.cause }
control_by (Quit cause) c = inactive cause
control_by Resumed c =
    record { status = Running; pending = c.pending; pass = true; cause = c.cause }
control_by (Stepped outcome) c = control_by_outcome outcome c
control_by (BreakSet place) c = c
control_by (BreakCleared place) c = c
control_by (TraceSet on) c = c

-- the breakpoints with one more place, in rising order
abbrev pub with_breakpoint : ℕ → List ℕ → List ℕ
with_breakpoint place [] = place ∷ []
with_breakpoint place (at ∷ ats) =
    if nat_lt place at then place ∷ at ∷ ats else at ∷ with_breakpoint place ats

-- the breakpoints but this place
abbrev pub without_breakpoint : ℕ → List ℕ → List ℕ
without_breakpoint place breakpoints = filter (λ at. not (at == place)) breakpoints

abbrev pub breakpoints_by : Change → List ℕ → List ℕ
breakpoints_by (BreakSet place) breakpoints = with_breakpoint place breakpoints
breakpoints_by (BreakCleared place) breakpoints = without_breakpoint place breakpoints
breakpoints_by change breakpoints = breakpoints

abbrev pub trace_flag_by : Change → Bool → Bool
trace_flag_by (TraceSet on) traced = on
trace_flag_by change traced = traced

-- each instruction that is done takes one from what remains of the budget; one that a breakpoint
-- holds takes nothing, and a fault takes nothing
abbrev pub remaining_by_outcome : InstructionOutcome → Option ℕ → Option ℕ
remaining_by_outcome Broke remaining = remaining
remaining_by_outcome Ran remaining = one_less remaining
remaining_by_outcome (Called call) remaining = one_less remaining
remaining_by_outcome Ended remaining = one_less remaining
remaining_by_outcome (Faulted fault) remaining = remaining

-- a start alone sets the budget, and instructions alone take from it
abbrev pub remaining_by : Change → Option ℕ → Option ℕ
remaining_by (Started budget arguments) remaining = budget_of budget
remaining_by (Stepped outcome) remaining = remaining_by_outcome outcome remaining
remaining_by change remaining = remaining

-- ---- records after an effect

abbrev pub record_by : Change → Rec → Rec
record_by change r = record r {
  machine = machine_by change r.image r.machine;
  mailbox = mailbox_by change r.mailbox;
  control = control_by change r.control;
  breakpoints = breakpoints_by change r.breakpoints;
  traced = trace_flag_by change r.traced;
  remaining = remaining_by change r.remaining;
}

-- a procedure that was loaded
abbrev pub new_record : Profile → List ℕ → Rec
new_record profile image = record {
  image = image;
  machine = machine_at_start profile [];
  mailbox = [];
  control = inactive cause.Nothing;
  breakpoints = [];
  traced = false;
  remaining = None;
}

-- what an effect leaves of the record of its procedure, if that is loaded and stays
abbrev pub record_after : Effect → Rec → Rec
record_after (Changed id change) r = record_by change r
record_after effect r = r

-- the records with the changed record of a procedure that is loaded
abbrev pub with_change : Option Rec → ℕ → Change → Records → Records
with_change None id change m = m
with_change (Some r) id change m = insert m id (record_by change r)

abbrev pub records_by : Effect → Records → Records
records_by (Loaded profile id image) m = insert m id (new_record profile image)
records_by (Unloaded id) m = remove m id
records_by (Changed id change) m = with_change (get m id) id change m
records_by Drained m = m
records_by (WordPut index value) m = m
records_by (Kept why) m = m

-- ---- the outbox after an effect

-- the completion of what something else overtook: its failure is reported whatever its flags are
abbrev pub failed_completion : Pending → List Due
failed_completion pending.Nothing = []
failed_completion (pending.Stop s from) = record { origin = from; failure = Some Overtaken } ∷ []
failed_completion (pending.Suspend s from) = record { origin = from; failure = Some Overtaken } ∷ []

-- the completion of what was done: it is reported if its flag is set
abbrev pub due_completion : PendingOrigin → List Due
due_completion from =
    if wants_completion from.ack then record { origin = from; failure = None } ∷ [] else []

-- what waits to be reported after the end of a step: the completion of what is pending, if it
-- matches
abbrev pub dues_at_step_end : Pending → ℕ → List Due
dues_at_step_end pending.Nothing k = []
dues_at_step_end (pending.Stop s from) k = if matches s k then due_completion from else []
dues_at_step_end (pending.Suspend s from) k = if matches s k then due_completion from else []

abbrev pub dues_by_call : Call → Pending → List Due
dues_by_call (call.StepEnd k) pending = dues_at_step_end pending k
dues_by_call other pending = []

abbrev pub dues_by_outcome : InstructionOutcome → Pending → List Due
dues_by_outcome Broke pending = []
dues_by_outcome Ran pending = []
dues_by_outcome (Called call) pending = dues_by_call call pending
dues_by_outcome Ended pending = failed_completion pending
dues_by_outcome (Faulted fault) pending = failed_completion pending

-- a stop or suspend that is replaced, or whose procedure becomes inactive, is overtaken
abbrev pub dues_by_change : Change → Pending → List Due
dues_by_change (Started budget arguments) pending = failed_completion pending
dues_by_change (Sent words) pending = []
dues_by_change (Pended next) pending = failed_completion pending
dues_by_change (Quit cause) pending = failed_completion pending
dues_by_change Resumed pending = []
dues_by_change (Stepped outcome) pending = dues_by_outcome outcome pending
dues_by_change (BreakSet place) pending = []
dues_by_change (BreakCleared place) pending = []
dues_by_change (TraceSet on) pending = []

-- the same for a procedure that is loaded; else nothing
abbrev pub dues_of : Change → Option Rec → List Due
dues_of change None = []
dues_of change (Some r) = dues_by_change change r.control.pending

abbrev pub failed_completion_of : Option Rec → List Due
failed_completion_of None = []
failed_completion_of (Some r) = failed_completion r.control.pending

-- what a loaded or unloaded procedure had pending would be overtaken: it had nothing pending
abbrev pub dues_by : Effect → Records → List Due
dues_by (Loaded profile id image) m = failed_completion_of (get m id)
dues_by (Unloaded id) m = failed_completion_of (get m id)
dues_by (Changed id change) m = dues_of change (get m id)
dues_by Drained m = []
dues_by (WordPut index value) m = []
dues_by (Kept why) m = []

abbrev pub outbox_by : Effect → Records → List Due → List Due
outbox_by Drained m outbox = []
outbox_by effect m outbox = outbox ++ dues_by effect m

-- ---- what is set apart from requests

abbrev pub with_breakpoints : List ℕ → Rec → Rec
with_breakpoints breakpoints r = record r { breakpoints = breakpoints }

abbrev pub with_trace_flag : Bool → Rec → Rec
with_trace_flag traced r = record r { traced = traced }

-- the records with what is set in the record of a procedure that is loaded
abbrev pub records_with : Option Rec → ℕ → (Rec → Rec) → Records → Records
records_with None id set m = m
records_with (Some r) id set m = insert m id (set r)

-- ---- a table after an effect

abbrev pub table_by : Effect → Procedures → Procedures
table_by effect t = record t {
  records = records_by effect t.records;
  outbox = outbox_by effect t.records t.outbox;
}

-- a table with one more record
abbrev pub with_procedure : ℕ → Rec → Procedures → Procedures
with_procedure id r t = record t { records = insert t.records id r }

-- a table with what is set in the record of a procedure, if that is loaded
abbrev pub table_with : ℕ → (Rec → Rec) → Procedures → Procedures
table_with id set t = record t { records = records_with (get t.records id) id set t.records }

-- ---- the pool after an effect

abbrev pub pool_by_outcome : InstructionOutcome → List ℕ → List ℕ
pool_by_outcome (Called call) pool = pool_after call pool
pool_by_outcome outcome pool = pool

abbrev pub pool_by_change : Change → List ℕ → List ℕ
pool_by_change (Stepped outcome) pool = pool_by_outcome outcome pool
pool_by_change change pool = pool

abbrev pub pool_by : Effect → List ℕ → List ℕ
pool_by (Changed id change) pool = pool_by_change change pool
pool_by (WordPut index value) pool = slice_set pool index value
pool_by effect pool = pool

-- ---- answers

-- why what was asked failed, if it did
abbrev pub failure_of : Effect → Option StartFailure
failure_of (Kept (Failed failure)) = Some failure
failure_of effect = None

abbrev pub result_of : Option StartFailure → Result (Unit {0}) StartFailure
result_of None = Ok tt
result_of (Some failure) = Err failure

-- the answer to a request
abbrev pub start_result : Effect → Result (Unit {0}) StartFailure
start_result effect = result_of (failure_of effect)

abbrev pub step_outcome_of : InstructionOutcome → StepOutcome
step_outcome_of Broke = step.Broke
step_outcome_of Ran = step.Ran
step_outcome_of (Called call) = step.Called
step_outcome_of Ended = step.Ended
step_outcome_of (Faulted fault) = step.Faulted (fault_number fault)

-- the answer to an instruction event: if none is done, the procedure is not loaded or does not run
abbrev pub step_outcome : Effect → StepOutcome
step_outcome (Changed id (Stepped outcome)) = step_outcome_of outcome
step_outcome (Kept (Failed failure.NotLoaded)) = step.NotLoaded
step_outcome effect = step.NotRunning

-- how an instruction event is refused, if it is
abbrev pub refusal_of : Effect → Option StepOutcome
refusal_of (Kept (Failed failure)) = Some (step_outcome (Kept (Failed failure)))
refusal_of effect = None
