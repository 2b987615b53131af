-- What holds of the buffer of trace records.
use Rattle.std.specs.Prelude.{◌≡◌, ◌≤◌, length}
use Rattle.circular_buffer.specs.Buffer.{Buffer}
use Rattle.ocp_debug.specs.declared.trace.Trace.{Trace}
use Rattle.ocp_debug.specs.declared.trace.TheConstants.{TRACE_RECORDS}

pub record IsTraceBuffer (b : Buffer Trace) : Type 0 where
  pub capacity : b.capacity ≡ TRACE_RECORDS
  pub few : length b.items ≤ TRACE_RECORDS
