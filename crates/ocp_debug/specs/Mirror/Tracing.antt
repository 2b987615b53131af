-- The trace record of an instruction, as the code makes it.
use Rattle.std.specs.Prelude.{ℕ, Bool, true, false, if◌then◌else◌, Option, Some, None}
use Rattle.bpf_types.specs.declared.line.Line.{Line}
use Rattle.ocp_loader.specs.LineAt.{line_of}
use Rattle.ocp_table.specs.declared.answers.StepOutcome.{StepOutcome}
use Rattle.ocp_table.specs.declared.answers.StepOutcome.TheVariants.{Ran, Called, Ended, Faulted}
use Rattle.ocp_table.specs.Records.{Rec}
use Rattle.ocp_debug.specs.declared.trace.Trace.{Trace}

-- the place of the next instruction of a procedure that is traced
abbrev pub traced_place : Option Rec → Option ℕ
traced_place None = None
traced_place (Some r) = if r.traced then Some r.machine.place else None

-- an instruction was done
abbrev pub leaves_trace : StepOutcome → Bool
leaves_trace Ran = true
leaves_trace Called = true
leaves_trace Ended = true
leaves_trace (Faulted number) = true
leaves_trace outcome = false

abbrev pub trace_of_line : ℕ → ℕ → StepOutcome → Rec → Option Line → Option Trace
trace_of_line id place outcome r None = None
trace_of_line id place outcome r (Some line) = Some (record {
  id = id;
  place = place;
  outcome = outcome;
  registers = r.machine.registers;
  line = line;
})

abbrev pub trace_by : ℕ → ℕ → StepOutcome → Option Rec → Option Trace
trace_by id place outcome None = None
trace_by id place outcome (Some r) = trace_of_line id place outcome r (line_of r.image place)

abbrev pub trace_after : ℕ → Option ℕ → StepOutcome → Option Rec → Option Trace
trace_after id None outcome after = None
trace_after id (Some place) outcome after =
    if leaves_trace outcome then trace_by id place outcome after else None
