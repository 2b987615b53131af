-- The names of refusals in what the program prints.
use Rattle.std.specs.Prelude.{ℕ, List, codes}
use Rattle.pus_fields.specs.TelecommandFaults.{discard_name}
use Rattle.ocp_world.specs.declared.answers.EngineFault.{EngineFault}
use Rattle.ocp_world.specs.declared.answers.EngineFault.TheVariants as fault
use Rattle.ocp_world.specs.declared.answers.PutFault.{PutFault}
use Rattle.ocp_world.specs.declared.answers.PutFault.TheVariants as put

-- a refusal of a request or a drain; a discard has the name of its cause
abbrev pub engine_fault_name : EngineFault → List ℕ
engine_fault_name (fault.Discarded cause) = discard_name cause
engine_fault_name fault.JournalFull = codes "JournalFull"
engine_fault_name fault.Memory = codes "Memory"
engine_fault_name fault.NothingDue = codes "NothingDue"

-- a refusal of a write of a pool word
abbrev pub put_fault_name : PutFault → List ℕ
put_fault_name put.BadPoolIndex = codes "BadPoolIndex"
put_fault_name put.JournalFull = codes "JournalFull"
