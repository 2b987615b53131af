-- What an event does: to the records, and what is answered.
use Rattle.std.specs.Prelude.{List, Result}
use Rattle.pus_fields.specs.declared.fault.Discard.{Discard}
use Rattle.ocp_table.specs.declared.answers.StepOutcome.{StepOutcome}
use Rattle.ocp_table.specs.Effects as table
use Rattle.ocp_debug.specs.declared.command.DebugFault.{DebugFault}
use Rattle.ocp_reports.specs.Origin.{Dispatch}
use Rattle.ocp_world.specs.declared.answers.PutFault.{PutFault}

-- octets are discarded; reports are sent, each to its destination at its time; an instruction was
-- asked for; a debugger's command was; no completion waits to be reported; or a write of a pool
-- word was asked for
pub data Reply : Type 0 where
  Discards : Discard → Reply
  Sends : List Dispatch → Reply
  Steps : StepOutcome → Reply
  Commands : Result (Unit {0}) DebugFault → Reply
  Undue : Reply
  Puts : Result (Unit {0}) PutFault → Reply

pub record Effect : Type 0 where
  pub on_records : table.Effect
  pub reply : Reply
