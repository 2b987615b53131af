-- What a line led to.
use Rattle.std.specs.Prelude.{◌≡◌, ℕ, List, Option, Some, None, Result, Ok, Err}
use Rattle.ocp_lines.specs.declared.command.Shift.{Shift}
use Rattle.ocp_ports.specs.declared.fault.ConsoleFault.{ConsoleFault}
use Rattle.ocp_ports.specs.declared.fault.ConsoleFault.TheVariants as faults
use Rattle.ocp_ports.specs.Faults.{fault_line, fault_name}
use Rattle.ocp_console.specs.Answering.{State, Effect, Does, Works, respond}
use Rattle.ocp_console.specs.Script.{Writing, Stops, FaultLine}

-- what a `work` line asks for
abbrev pub works_of : Shift → Effect
works_of shift = Works shift.workers.number shift.budget.number shift.turns.number

-- the effect that was carried out, with the state after it and what is printed, or that the crew is
-- asked for
abbrev pub effect_by : State → List ℕ → Option Shift → Effect
effect_by after output None = Does (after, output)
effect_by after output (Some shift) = works_of shift

-- if the crew is asked, nothing was done yet
abbrev pub IsKept : State → State → Option Shift → Type 0
IsKept before after None = Unit {0}
IsKept before after (Some shift) = after ≡ before

-- what a line of this number led to: it was done, the crew is asked, or it ends the run
abbrev pub Answers :
    State → State → List ℕ → ℕ → List ℕ → Result (Option Shift) ConsoleFault → Type 0
Answers before after output number line (Ok asked) =
    (respond before line ≡ Some (effect_by after output asked)) × IsKept before after asked
Answers before after output number line (Err (faults.Syntax n)) =
    (n ≡ number) × (respond before line ≡ None)
Answers before after output number line (Err faults.Memory) = Unit {0}
Answers before after output number line (Err faults.TooManyLines) = ⊥
Answers before after output number line (Err (faults.LineTooLong n)) = ⊥
Answers before after output number line (Err faults.Read) = ⊥
Answers before after output number line (Err faults.Write) = ⊥
Answers before after output number line (Err faults.Workers) = ⊥

abbrev pub refusal : Option ℕ → ConsoleFault → Writing
refusal None fault = Stops (Err fault)
refusal (Some number) fault = FaultLine number (fault_name fault) fault

-- what is written of a fault that ends a run: its line, if it is one of the script
abbrev pub Refuses : ConsoleFault → Writing
Refuses fault = refusal (fault_line fault) fault
