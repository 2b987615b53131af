-- Commands that read their whole input, and write one output.
use Rattle.std.specs.Prelude.{ℕ, Bool, List, Option, Result, Ok, Err}
use Rattle.std.specs.Io.KnownBytes.{Appends, Keeps}
use Rattle.ocp_ports.specs.declared.fault.ConsoleFault.{ConsoleFault}
use Rattle.ocp_ports.specs.declared.fault.ConsoleFault.TheVariants as faults
use Rattle.ocp_ports.specs.Printing.{PrintsPrefix}

-- A command's meaning: `Gives output done` states that the output is `output`; if `done` is false
-- it is not what was asked for.
-- The whole output was written, and the command answers `done`; or a write failed, and a prefix of
-- it was written; or a read failed or memory ran out, and nothing was written.
abbrev pub Writes : (List ℕ → Bool → Type 0) → Option (List ℕ) → Option (List ℕ) →
    Result Bool ConsoleFault → Type 0
Writes Gives old new (Ok done) = (output : List ℕ) × Gives output done × Appends old new output
Writes Gives old new (Err faults.Write) =
    (output : List ℕ) × (done : Bool) × Gives output done × PrintsPrefix old new output
Writes Gives old new (Err faults.Read) = Keeps old new
Writes Gives old new (Err faults.Memory) = Keeps old new
Writes Gives old new (Err faults.Workers) = ⊥
Writes Gives old new (Err faults.TooManyLines) = ⊥
Writes Gives old new (Err (faults.LineTooLong n)) = ⊥
Writes Gives old new (Err (faults.Syntax n)) = ⊥

-- a fault of a device or of memory, and none of the input
abbrev pub IsMachineFault : ConsoleFault → Type 0
IsMachineFault faults.Read = Unit {0}
IsMachineFault faults.Write = Unit {0}
IsMachineFault faults.Memory = Unit {0}
IsMachineFault faults.Workers = ⊥
IsMachineFault faults.TooManyLines = ⊥
IsMachineFault (faults.LineTooLong n) = ⊥
IsMachineFault (faults.Syntax n) = ⊥
