-- What contracts see of a record and of a directive, and what readers show of a record.
use Rattle.std.specs.Prelude.{◌≡◌, ◌≤◌, ℕ, ◌+◌, Bool, true, false, List, [], map, length, Option, Some, None, Result, Ok, Err}
use Rattle.std.specs.FinMap.{entries}
use Rattle.obcp_types.specs.declared.failure.StartFailure.{StartFailure}
use Rattle.obcp_types.specs.declared.status.StatusRow.{StatusRow}
use Rattle.ocp_pool.specs.declared.mailbox.TheConstants.{MAX_MAILBOX_WORDS}
use Rattle.ocp_regions.specs.declared.regions.TheConstants.{ARGUMENT_OCTETS}
use Rattle.obcp_types.specs.declared.pending.Due.{Due}
use Rattle.ocp_table.specs.declared.control.Pending.{Pending}
use Rattle.ocp_table.specs.declared.view.View.{View}
use Rattle.ocp_table.specs.declared.change.Change as C
use Rattle.ocp_table.specs.declared.change.Change.TheVariants as change
use Rattle.ocp_table.specs.declared.change.Decision as B
use Rattle.ocp_table.specs.declared.change.Decision.TheVariants as decision
use Rattle.ocp_table.specs.declared.directive.Directive as D
use Rattle.ocp_table.specs.declared.directive.Directive.TheVariants as directive
use Rattle.ocp_table.specs.declared.record.Record.{Record}
use Rattle.ocp_table.specs.Records.{Rec, Records}
use Rattle.ocp_table.specs.Effects.{Effect, Unloaded, Changed, Change, Started, Sent, Pended, Quit, Resumed, failed_completion, dues_by_change}
use Rattle.ocp_table.specs.RequestTable.{Directive, Unload, Activate, Stop, Suspend, Resume, Abort, Communicate, Decision, Unloads, Changes, Fails}
use Rattle.ocp_table.specs.Deciding.{effect_on, words_of}

-- ---- what contracts see

module _ {A : Type 0} where
  abbrev pub id_of : Record A → ℕ
  id_of r = r.id

  abbrev pub record_of : Record A → Rec
  record_of r = record {
    image = r.execution.image;
    machine = r.execution.machine;
    mailbox = r.mailbox;
    control = r.control;
    breakpoints = r.breakpoints.items;
    traced = r.traced;
    remaining = r.remaining;
  }

-- what a request asks, by whether all places for pending and unreported completions are taken
abbrev pub directive_of : D.Directive → Bool → Directive
directive_of directive.Unload full = Unload
directive_of (directive.Activate budget arguments) full = Activate budget arguments.now
directive_of (directive.Stop s from) full = Stop s from full
directive_of (directive.Suspend s from) full = Suspend s from full
directive_of directive.Resume full = Resume
directive_of directive.Abort full = Abort
directive_of (directive.Communicate words) full = Communicate words.now

-- what a request does to the record of its procedure
abbrev pub change_of : C.Change → Change
change_of (change.Started budget arguments) = Started budget arguments.now
change_of (change.Sent words) = Sent words.now
change_of (change.Pended pending) = Pended pending
change_of (change.Quit cause) = Quit cause
change_of change.Resumed = Resumed

-- what was decided of it
abbrev pub decision_of : Result B.Decision StartFailure → Decision
decision_of (Ok decision.Unloads) = Unloads
decision_of (Ok (decision.Changes change)) = Changes (change_of change)
decision_of (Err failure) = Fails failure

-- the effect of what was decided
abbrev pub effect_decided : ℕ → B.Decision → Effect
effect_decided id decision.Unloads = Unloaded id
effect_decided id (decision.Changes change) = Changed id (change_of change)

-- what holds of the change, if a change was decided
abbrev pub IfChanges : B.Decision → (Change → Type 0) → Type 0
IfChanges decision.Unloads P = Unit {0}
IfChanges (decision.Changes change) P = P (change_of change)

-- the effect of a directive on a record of the table, which does not depend on whether the table is
-- full
abbrev pub effect_of_record : {A : Type 0} → Directive → Record A → Effect
effect_of_record directive r = effect_on directive (id_of r) (Some (record_of r)) true

-- what an effect on the procedure's own record adds to the outbox, by what is pending there
abbrev pub dues_of_effect : Effect → Pending → List Due
dues_of_effect (Changed id change) pending = dues_by_change change pending
dues_of_effect (Unloaded id) pending = failed_completion pending
dues_of_effect effect pending = []

-- the machine's memory has room for the arguments
abbrev pub HasFewArguments : Directive → Type 0
HasFewArguments (Activate budget arguments) = length arguments ≤ ARGUMENT_OCTETS
HasFewArguments other = Unit {0}

-- a change for whose arguments and words there is room
abbrev pub FitsIn : Change → Option Rec → Type 0
FitsIn (Started budget arguments) o = length arguments ≤ ARGUMENT_OCTETS
FitsIn (Sent words) o = words_of o + length words ≤ MAX_MAILBOX_WORDS
FitsIn other o = Unit {0}

-- the completion of a change finds a place, by whether all places are taken
abbrev pub HasPlaceFor : Bool → Change → Type 0
HasPlaceFor full (Pended pending) = full ≡ false
HasPlaceFor full other = Unit {0}

-- ---- what readers show

-- what is shown of a procedure
abbrev pub view_of : Rec → View
view_of r = record {
  status = r.control.status;
  cause = r.control.cause;
  place = r.machine.place;
  depth = length r.machine.frames;
  pending = r.control.pending;
  registers = r.machine.registers;
  remaining = r.remaining;
}

abbrev pub view_at : Option Rec → Option View
view_at None = None
view_at (Some r) = Some (view_of r)

-- id and status of each procedure, by rising id
abbrev pub row_of : ℕ × Rec → StatusRow
row_of e = record { id = e.0; status = e.1.control.status }

abbrev pub statuses_of : Records → List StatusRow
statuses_of m = map row_of (entries m)
