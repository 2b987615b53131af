-- What effect a directive has, by the request table, the record of its procedure, and whether the
-- table is full.
use Rattle.std.specs.Prelude.{◌≡◌, ℕ, Bool, true, false, if◌then◌else◌, List, length, Option, Some, None, Result, Ok, Err, nat_le}
use Rattle.std.specs.FinMap.{get, len}
use Rattle.bpf_types.specs.declared.line.Line.{Line}
use Rattle.obcp_types.specs.declared.status.Status.{Status}
use Rattle.obcp_types.specs.declared.failure.StartFailure.{StartFailure}
use Rattle.obcp_types.specs.declared.failure.StartFailure.TheVariants.{TableFull, BadCode, NotRunning}
use Rattle.ocp_profile.specs.declared.profile.Profile.{Profile}
use Rattle.ocp_loader.specs.declared.fault.LoadFault.{LoadFault}
use Rattle.ocp_loader.specs.FaultNumbers.{number_of, slot_of}
use Rattle.ocp_loader.specs.LoadResult.{load_result}
use Rattle.bpf_step.specs.declared.answer.Need.TheVariants as need
use Rattle.bpf_step.specs.Machine.{State, Outcome, Next, Needs, NoInstruction, read}
use Rattle.bpf_step.specs.Step.{one_step}
use Rattle.bpf_step.specs.Runs.{breaks_at}
use Rattle.ocp_pool.specs.declared.call.Called.{Called as Call}
use Rattle.ocp_pool.specs.declared.call.PoolFault.TheVariants.{BadPoolIndex}
use Rattle.ocp_pool.specs.Call.{engine_call}
use Rattle.ocp_table.specs.declared.table.TheConstants.{MAX_PROCEDURES}
use Rattle.ocp_table.specs.declared.fault.ProcedureFault.TheVariants.{Machine, Pool, BudgetSpent}
use Rattle.ocp_table.specs.declared.control.Pending.{Pending}
use Rattle.ocp_table.specs.declared.control.Pending.TheVariants as pending
use Rattle.ocp_table.specs.declared.answers.InstructionOutcome.{InstructionOutcome}
use Rattle.ocp_table.specs.declared.answers.InstructionOutcome.TheVariants.{Broke, Ran, Called, Ended, Faulted}
use Rattle.ocp_table.specs.declared.answers.StepOutcome.{StepOutcome}
use Rattle.ocp_table.specs.Records.{Rec, Records, Procedures}
use Rattle.ocp_table.specs.Budgets.{is_spent}
use Rattle.ocp_table.specs.Effects.{Effect, Loaded, Unloaded, Changed, Kept, Stepped, Failed, start_result, step_outcome, table_by, pool_by}
use Rattle.ocp_table.specs.RequestTable.{Directive, Step, Decision, Loads, Unloads, Changes, Steps, Fails, transition}

-- ---- an image is loaded

-- the table holds as many procedures as it may
abbrev pub is_full : Records → Bool
is_full m = nat_le MAX_PROCEDURES (len m)

-- the first fault of an image, as a report gives it
abbrev pub bad_code : LoadFault → StartFailure
bad_code fault = BadCode (number_of fault) (slot_of fault)

abbrev pub effect_of_load :
    Bool → Result (List (Option Line)) LoadFault → Profile → ℕ → List ℕ → Effect
effect_of_load true result profile id image = Kept (Failed TableFull)
effect_of_load false (Ok lines) profile id image = Loaded profile id image
effect_of_load false (Err fault) profile id image = Kept (Failed (bad_code fault))

-- ---- an instruction event

-- what an engine call is for its procedure: one that finds no word of the pool is a fault
abbrev pub outcome_of_call : Option Call → InstructionOutcome
outcome_of_call (Some call) = Called call
outcome_of_call None = Faulted (Pool BadPoolIndex)

-- what the outcome of a machine is for its procedure. A place without an instruction has none: no
-- procedure of a table is there, since no image that may be run has such a place.
abbrev pub outcome_of : Outcome → State → List ℕ → List ℕ → Option InstructionOutcome
outcome_of (Next s) machine pool mailbox = Some Ran
outcome_of (Needs need.LastExit) machine pool mailbox = Some Ended
outcome_of (Needs (need.Fault fault)) machine pool mailbox = Some (Faulted (Machine fault))
outcome_of (Needs (need.Call number)) machine pool mailbox =
    Some (outcome_of_call
    (engine_call number (read machine 1) (read machine 2) (read machine 3) pool mailbox))
outcome_of NoInstruction machine pool mailbox = None

-- a fault if nothing is left of the budget; else the instruction is done
abbrev pub outcome_unheld : Rec → List ℕ → Option InstructionOutcome
outcome_unheld r pool =
    if is_spent r.remaining then Some (Faulted BudgetSpent)
    else outcome_of (one_step r.image r.machine) r.machine pool r.mailbox

-- a breakpoint at the place holds the procedure before that, unless the pass flag is on
abbrev pub outcome_in : Rec → List ℕ → Option InstructionOutcome
outcome_in r pool =
    if breaks_at r.control.pass r.breakpoints r.machine.place then Some Broke
    else outcome_unheld r pool

abbrev pub outcome_at : Option Rec → List ℕ → Option InstructionOutcome
outcome_at None pool = None
outcome_at (Some r) pool = outcome_in r pool

-- without an outcome the procedure does not run
abbrev pub effect_of_step : Option InstructionOutcome → ℕ → Effect
effect_of_step (Some outcome) id = Changed id (Stepped outcome)
effect_of_step None id = Kept (Failed NotRunning)

-- ---- a directive

-- what the request table asks of a record
abbrev pub status_of : Option Rec → Option Status
status_of None = None
status_of (Some r) = Some r.control.status

abbrev pub pending_of : Option Rec → Pending
pending_of None = pending.Nothing
pending_of (Some r) = r.control.pending

abbrev pub words_of : Option Rec → ℕ
words_of None = 0
words_of (Some r) = length r.mailbox

abbrev pub decision_on : Directive → Option Rec → Decision
decision_on directive o = transition directive (status_of o) (pending_of o) (words_of o)

abbrev pub effect_by : Decision → ℕ → Option Rec → Bool → Effect
effect_by (Loads profile image) id o full =
    effect_of_load full (load_result profile image) profile id image
effect_by Unloads id o full = Unloaded id
effect_by (Changes change) id o full = Changed id change
effect_by (Steps pool) id o full = effect_of_step (outcome_at o pool) id
effect_by (Fails failure) id o full = Kept (Failed failure)

-- the effect of a directive, by the record of its procedure, if it is loaded
abbrev pub effect_on : Directive → ℕ → Option Rec → Bool → Effect
effect_on directive id o full = effect_by (decision_on directive o) id o full

-- its effect in these records
abbrev pub effect_in : Directive → ℕ → Records → Effect
effect_in directive id m = effect_on directive id (get m id) (is_full m)

-- what a directive leaves of a table
abbrev pub table_after : Directive → ℕ → Procedures → Procedures
table_after directive id t = table_by (effect_in directive id t.records) t

-- the answer of a table to a directive
abbrev pub answer_after : Directive → ℕ → Procedures → Result (Unit {0}) StartFailure
answer_after directive id t = start_result (effect_in directive id t.records)

-- a directive is done to a table, or it fails
pub record Executes (directive : Directive) (id : ℕ) (old new : Procedures)
    (result : Result (Unit {0}) StartFailure) : Type 0 where
  pub answer : result ≡ answer_after directive id old
  pub table : new ≡ table_after directive id old

-- an instruction event is done in a table and with this pool, or it fails
pub record ExecutesStep (id : ℕ) (old new : Procedures) (pool left : List ℕ)
    (outcome : StepOutcome) : Type 0 where
  pub answer : outcome ≡ step_outcome (effect_in (Step pool) id old.records)
  pub table : new ≡ table_after (Step pool) id old
  pub pool_after : left ≡ pool_by (effect_in (Step pool) id old.records) pool
