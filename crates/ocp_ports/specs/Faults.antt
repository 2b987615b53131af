-- The faults that end a run.
use Rattle.std.specs.Prelude.{ℕ, ◌+◌, List, Option, Some, None, codes}
use Rattle.ocp_ports.specs.declared.crew.CrewFault.{CrewFault}
use Rattle.ocp_ports.specs.declared.crew.CrewFault.TheVariants as refusal
use Rattle.ocp_ports.specs.declared.fault.ConsoleFault.{ConsoleFault}
use Rattle.ocp_ports.specs.declared.fault.TheConstants.{MAX_LINES}
use Rattle.ocp_ports.specs.declared.fault.ConsoleFault.TheVariants as faults

-- the name of a fault
abbrev pub fault_name : ConsoleFault → List ℕ
fault_name faults.TooManyLines = codes "TooManyLines"
fault_name (faults.LineTooLong line) = codes "LineTooLong"
fault_name (faults.Syntax line) = codes "Syntax"
fault_name faults.Read = codes "Read"
fault_name faults.Write = codes "Write"
fault_name faults.Memory = codes "Memory"
fault_name faults.Workers = codes "Workers"

-- the number of the line that has a fault of a script
abbrev pub fault_line : ConsoleFault → Option ℕ
fault_line faults.TooManyLines = Some (MAX_LINES + 1)
fault_line (faults.LineTooLong line) = Some line
fault_line (faults.Syntax line) = Some line
fault_line faults.Read = None
fault_line faults.Write = None
fault_line faults.Memory = None
fault_line faults.Workers = None

-- how a run ends if its crew refused
abbrev pub crew_fault : CrewFault → ConsoleFault
crew_fault refusal.Memory = faults.Memory
crew_fault refusal.Workers = faults.Workers
