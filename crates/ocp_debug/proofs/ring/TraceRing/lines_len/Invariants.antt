use Rattle.std.proofs.Common.{◌≡◌, ◌≤◌, ◌+◌, ◌*◌, length}
use Rattle.std.specs.List.{flat_map}
use Rattle.ocp_debug.specs.Texts.{trace_line}
use Rattle.ocp_debug.proofs.ring.TraceRing.lines_len.Given as goal

-- the octets so far, and those of the other lines
abbrev pub invariant-loop-trace : goal.invariant-loop-trace
invariant-loop-trace g l = record {
  all : l.len + length (flat_map trace_line l.trace-iterator) ≡ length (flat_map trace_line l.initial.trace-iterator);
  few : l.len + 266 * length l.trace-iterator ≤ 266 * 256;
}
