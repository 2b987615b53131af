-- What C reads of the trace records that are kept.
use Rattle.std.specs.Prelude.{ℕ, nat_le, if◌then◌else◌, List, ◌++◌, drop, slice_get, Option, Some, None}
use Rattle.ocp_debug.specs.declared.trace.Trace.{Trace}
use Rattle.ocp_debug.specs.Traces.{last_traces}
use Rattle.ocp_flight.specs.Flown.{Flown, world_of}
use Rattle.ocp_c.specs.declared.record.Record.{Record}
use Rattle.ocp_c.specs.declared.status.Status.{Status}
use Rattle.ocp_c.specs.declared.status.Status.TheVariants as status
use Rattle.ocp_c.specs.Calls.{outcome_or}

-- the record at an index, the oldest that is kept at 0
abbrev pub kept_record : Flown → ℕ → Option Trace
kept_record flown index = slice_get (last_traces (world_of flown).traces) index

-- a record as C sees it
abbrev pub record_of : Trace → Record → Record
record_of trace before = record {
  id = trace.id;
  place = trace.place;
  outcome = outcome_or trace.outcome before.outcome;
}

-- a buffer of under 11 registers is refused before anything else
abbrev pub record_status : ℕ → Option Trace → Status
record_status room None = if nat_le 11 room then status.NoRecord else status.BufferTooSmall
record_status room (Some trace) = if nat_le 11 room then status.Done else status.BufferTooSmall

abbrev pub record_or : ℕ → Option Trace → Record → Record
record_or room None before = before
record_or room (Some trace) before = if nat_le 11 room then record_of trace before else before

-- the registers from the front on; what follows them stays
abbrev pub traced_or : ℕ → Option Trace → List ℕ → List ℕ
traced_or room None before = before
traced_or room (Some trace) before =
    if nat_le 11 room then trace.registers ++ drop 11 before else before
