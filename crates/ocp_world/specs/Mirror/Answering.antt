-- Why an event is refused, as it is decided before the event is done.
use Rattle.std.specs.Prelude.{◌≡◌, ℕ, Bool, Option, Some, None, Result, Ok, Err, false, true}
use Rattle.pus_fields.specs.declared.fault.Discard.{Discard}
use Rattle.pus_fields.specs.declared.fault.TcFault.{TcFault}
use Rattle.pus_fields.specs.declared.fault.TcFault.TheVariants as fault
use Rattle.pus_fields.specs.Telecommand.{Telecommand}
use Rattle.ocp_table.specs.declared.answers.StepOutcome.{StepOutcome}
use Rattle.ocp_debug.specs.declared.command.DebugFault.{DebugFault}
use Rattle.ocp_world.specs.declared.answers.EngineFault.TheVariants as engine
use Rattle.ocp_world.specs.declared.answers.PutFault.TheVariants as put
use Rattle.ocp_world.specs.After.{Answer, Requested, Stepped, Commanded, Written, is_accepted}

-- why octets are discarded, if they are
abbrev pub discard_of : Result Telecommand TcFault → Option Discard
discard_of (Ok telecommand) = None
discard_of (Err (fault.Rejected rejection request)) = None
discard_of (Err (fault.Discarded cause)) = Some cause

-- a request is discarded for this cause, or it is accepted
abbrev pub IsDiscard : Answer → Option Discard → Type 0
IsDiscard answer None = is_accepted answer ≡ true
IsDiscard answer (Some cause) = answer ≡ Requested (Err (engine.Discarded cause))

-- an instruction event is refused with this outcome, or it is accepted
abbrev pub IsRefusal : Answer → Option StepOutcome → Type 0
IsRefusal answer None = is_accepted answer ≡ true
IsRefusal answer (Some outcome) = (is_accepted answer ≡ false) × (Stepped outcome ≡ answer)

-- a debugger's command is done, or it is refused with this fault
abbrev pub IsCommanded : {T : Type 0} → Answer → Result T DebugFault → Type 0
IsCommanded answer (Ok decided) = answer ≡ Commanded (Ok tt)
IsCommanded answer (Err fault) = answer ≡ Commanded (Err fault)

-- a drain is refused since nothing is due, or it is accepted
abbrev pub IsUndue : Answer → Bool → Type 0
IsUndue answer true = is_accepted answer ≡ true
IsUndue answer false = answer ≡ Requested (Err engine.NothingDue)

-- a write of a pool word finds the word and is done, or it is refused
abbrev pub IsPutAt : Answer → Option ℕ → Type 0
IsPutAt answer (Some word) = answer ≡ Written (Ok tt)
IsPutAt answer None = answer ≡ Written (Err put.BadPoolIndex)
