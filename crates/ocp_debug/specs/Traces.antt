-- The trace records that an event makes.
use Rattle.std.specs.Prelude.{ℕ, Bool, true, false, List, [], ◌∷◌, Option, Some, None}
use Rattle.std.specs.FinMap.{get}
use Rattle.bpf_types.specs.declared.line.Line.{Line}
use Rattle.ocp_loader.specs.LineAt.{line_of}
use Rattle.ocp_table.specs.declared.answers.InstructionOutcome.{InstructionOutcome}
use Rattle.ocp_table.specs.declared.answers.InstructionOutcome.TheVariants.{Broke}
use Rattle.ocp_table.specs.Records.{Rec, Records}
use Rattle.ocp_table.specs.Effects.{Effect, Changed, Change, Stepped, machine_by_outcome, step_outcome_of}
use Rattle.circular_buffer.specs.Buffer.{keep_last}
use Rattle.ocp_debug.specs.declared.trace.Trace.{Trace}
use Rattle.ocp_debug.specs.declared.trace.TheConstants.{TRACE_RECORDS}

-- the record of an instruction: its place and its line are those before it, the registers those
-- after it
abbrev pub trace_of : ℕ → InstructionOutcome → Rec → Line → Trace
trace_of id outcome r line = record {
  id = id;
  place = r.machine.place;
  outcome = step_outcome_of outcome;
  registers = (machine_by_outcome outcome r.image r.machine).registers;
  line = line;
}

-- one record if a line is at the place; in a table one always is
abbrev pub traces_at : Option Line → ℕ → InstructionOutcome → Rec → List Trace
traces_at None id outcome r = []
traces_at (Some line) id outcome r = trace_of id outcome r line ∷ []

abbrev pub traces_if : Bool → ℕ → InstructionOutcome → Rec → List Trace
traces_if false id outcome r = []
traces_if true id outcome r = traces_at (line_of r.image r.machine.place) id outcome r

-- an instruction of a traced procedure makes one record, a breakpoint that holds it none
abbrev pub traces_of : ℕ → InstructionOutcome → Rec → List Trace
traces_of id Broke r = []
traces_of id outcome r = traces_if r.traced id outcome r

abbrev pub traces_by_change : ℕ → Change → Option Rec → List Trace
traces_by_change id (Stepped outcome) (Some r) = traces_of id outcome r
traces_by_change id change o = []

-- what an effect makes in these records
abbrev pub traces_by : Effect → Records → List Trace
traces_by (Changed id change) m = traces_by_change id change (get m id)
traces_by effect m = []

-- the records that are kept of all that were made
abbrev pub last_traces : List Trace → List Trace
last_traces traces = keep_last TRACE_RECORDS traces
