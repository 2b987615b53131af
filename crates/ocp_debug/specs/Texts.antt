-- What is printed of procedures and of trace records.
use Rattle.std.specs.Prelude.{ℕ, ◌+◌, List, [], ◌∷◌, ◌++◌, Option, Some, None, codes}
use Rattle.std.specs.Fmt.{decimal}
use Rattle.std.specs.Int.{w64, to_be_bytes}
use Rattle.hex.specs.Hex.{encode_lower}
use Rattle.obcp_types.specs.declared.status.Status.{Status}
use Rattle.obcp_types.specs.declared.status.Status.TheVariants as status
use Rattle.bpf_canonical.specs.Canonical.{canonical}
use Rattle.ocp_table.specs.declared.control.Cause.{Cause}
use Rattle.ocp_table.specs.declared.control.Cause.TheVariants as cause
use Rattle.ocp_table.specs.declared.control.Pending.{Pending}
use Rattle.ocp_table.specs.declared.control.Pending.TheVariants as pending
use Rattle.ocp_table.specs.declared.view.View.{View}
use Rattle.ocp_table.specs.Faults.{fault_number}
use Rattle.ocp_table.specs.declared.answers.StepOutcome.{StepOutcome}
use Rattle.ocp_table.specs.declared.answers.StepOutcome.TheVariants as outcome
use Rattle.ocp_debug.specs.declared.command.DebugFault.{DebugFault}
use Rattle.ocp_debug.specs.declared.command.DebugFault.TheVariants as fault
use Rattle.ocp_debug.specs.declared.trace.Trace.{Trace}

-- 16 digits
abbrev pub word_text : ℕ → List ℕ
word_text word = encode_lower (to_be_bytes w64 word)

-- ---- views

abbrev pub status_name : Status → List ℕ
status_name status.Inactive = codes "inactive"
status_name status.Running = codes "running"
status_name status.Held = codes "held"

abbrev pub cause_text : Cause → List ℕ
cause_text cause.Nothing = codes "none"
cause_text cause.Exited = codes "exited"
cause_text cause.Stopped = codes "stopped"
cause_text cause.Aborted = codes "aborted"
cause_text (cause.Fault why) = codes "fault" ++ decimal (fault_number why)

abbrev pub pending_text : Pending → List ℕ
pending_text pending.Nothing = codes "none"
pending_text (pending.Stop step from) = codes "stop " ++ decimal step
pending_text (pending.Suspend step from) = codes "suspend " ++ decimal step

-- `view <id> <status> <cause> place <place> depth <depth> pending <pending>`
abbrev pub view_line : ℕ → View → List ℕ
view_line id view =
    codes "view " ++ decimal id ++ codes " " ++ status_name view.status ++ codes " "
    ++ cause_text view.cause ++ codes " place " ++ decimal view.place ++ codes " depth "
    ++ decimal view.depth ++ codes " pending " ++ pending_text view.pending ++ codes "\n"

-- `r<index> <16 digits>`
abbrev pub register_line : ℕ → ℕ → List ℕ
register_line index register =
    codes "r" ++ decimal index ++ codes " " ++ word_text register ++ codes "\n"

-- the lines of registers, the first of which has this index
abbrev pub register_lines : ℕ → List ℕ → List ℕ
register_lines index [] = []
register_lines index (register ∷ registers) =
    register_line index register ++ register_lines (index + 1) registers

-- 12 lines, or one if the procedure is not loaded
abbrev pub view_lines : ℕ → Option View → List ℕ
view_lines id None = codes "view " ++ decimal id ++ codes " NotLoaded\n"
view_lines id (Some view) = view_line id view ++ register_lines 0 view.registers

-- ---- trace records

abbrev pub outcome_text : StepOutcome → List ℕ
outcome_text outcome.Broke = codes "Broke"
outcome_text outcome.Ran = codes "Ran"
outcome_text outcome.Called = codes "Called"
outcome_text outcome.Ended = codes "Ended"
outcome_text (outcome.Faulted number) = codes "Faulted " ++ decimal number
outcome_text outcome.NotLoaded = codes "NotLoaded"
outcome_text outcome.NotRunning = codes "NotRunning"
outcome_text outcome.JournalFull = codes "JournalFull"

-- each after a space
abbrev pub words_text : List ℕ → List ℕ
words_text [] = []
words_text (word ∷ words) = codes " " ++ word_text word ++ words_text words

-- `trace <id> <place> <outcome> <r0> .. <r10> <instruction>`
abbrev pub trace_line : Trace → List ℕ
trace_line trace =
    codes "trace " ++ decimal trace.id ++ codes " " ++ decimal trace.place ++ codes " "
    ++ outcome_text trace.outcome ++ words_text trace.registers ++ codes " "
    ++ canonical trace.line ++ codes "\n"

-- ---- refusals

abbrev pub debug_fault_name : DebugFault → List ℕ
debug_fault_name fault.NotLoaded = codes "NotLoaded"
debug_fault_name fault.NotAnInstruction = codes "NotAnInstruction"
debug_fault_name fault.AlreadySet = codes "AlreadySet"
debug_fault_name fault.BreaksFull = codes "BreaksFull"
debug_fault_name fault.NotSet = codes "NotSet"
debug_fault_name fault.JournalFull = codes "JournalFull"
debug_fault_name fault.OutsideMemory = codes "OutsideMemory"
