-- What a debugger's command does to the records, and when it is refused.
use Rattle.std.specs.Prelude.{ℕ, ◌==◌, nat_le, Bool, not, if◌then◌else◌, List, length, Option, Some, None, Result, Ok, Err}
use Rattle.std.specs.List.{list_any}
use Rattle.std.specs.Option.{is_some}
use Rattle.std.specs.FinMap.{get}
use Rattle.ocp_loader.specs.LineAt.{line_of}
use Rattle.ocp_table.specs.declared.record.TheConstants.{MAX_BREAKPOINTS}
use Rattle.ocp_table.specs.Records.{Rec, Records, Procedures}
use Rattle.ocp_table.specs.Effects.{Effect, Changed, Kept, Unasked, Change, BreakSet, BreakCleared, TraceSet, records_by}
use Rattle.ocp_debug.specs.declared.command.Command.{Command}
use Rattle.ocp_debug.specs.declared.command.Command.TheVariants.{SetBreak, ClearBreak, SetTrace}
use Rattle.ocp_debug.specs.declared.command.DebugFault.{DebugFault}
use Rattle.ocp_debug.specs.declared.command.DebugFault.TheVariants.{NotLoaded, NotAnInstruction, AlreadySet, BreaksFull, NotSet}

-- ---- refusals

-- a breakpoint is set at this place
abbrev pub is_set : ℕ → List ℕ → Bool
is_set place breakpoints = list_any (λ at. at == place) breakpoints

-- why a breakpoint can't be set, if it can't: the place is not that of an instruction, one is set
-- there, or eight are set
abbrev pub set_fault : Rec → ℕ → Option DebugFault
set_fault r place =
    if not (is_some (line_of r.image place)) then Some NotAnInstruction
    else if is_set place r.breakpoints then Some AlreadySet
    else if nat_le MAX_BREAKPOINTS (length r.breakpoints) then Some BreaksFull
    else None

-- why a command on a record is refused, if it is
abbrev pub fault_in : Command → Rec → Option DebugFault
fault_in (SetBreak place) r = set_fault r place
fault_in (ClearBreak place) r = if is_set place r.breakpoints then None else Some NotSet
fault_in (SetTrace on) r = None

abbrev pub fault_on : Command → Option Rec → Option DebugFault
fault_on command None = Some NotLoaded
fault_on command (Some r) = fault_in command r

-- ---- effects

abbrev pub change_of : Command → Change
change_of (SetBreak place) = BreakSet place
change_of (ClearBreak place) = BreakCleared place
change_of (SetTrace on) = TraceSet on

-- a command that is refused changes nothing
abbrev pub effect_by : Option DebugFault → Command → ℕ → Effect
effect_by None command id = Changed id (change_of command)
effect_by (Some fault) command id = Kept Unasked

-- in these records
abbrev pub command_effect : Command → ℕ → Records → Effect
command_effect command id m = effect_by (fault_on command (get m id)) command id

-- a table with what an effect leaves of its records
abbrev pub with_effect : Effect → Procedures → Procedures
with_effect effect t = record t { records = records_by effect t.records }

-- what a command leaves of a table
abbrev pub table_by_command : Command → ℕ → Procedures → Procedures
table_by_command command id t = with_effect (command_effect command id t.records) t

-- ---- answers

abbrev pub result_of : Option DebugFault → Result (Unit {0}) DebugFault
result_of None = Ok tt
result_of (Some fault) = Err fault

abbrev pub command_result : Command → ℕ → Records → Result (Unit {0}) DebugFault
command_result command id m = result_of (fault_on command (get m id))
