use Rattle.std.proofs.Common.{◌≡◌, ◌≤◌, ◌+◌, ◌++◌, length}
use Rattle.std.specs.Prelude.{vec_capacity}
use Rattle.std.specs.List.{flat_map}
use Rattle.ocp_debug.specs.Texts.{trace_line}
use Rattle.ocp_debug.proofs.ring.TraceRing.write_lines.Given as goal

-- the lines so far, and the others, for which there is room
abbrev pub invariant-loop-trace : goal.invariant-loop-trace
invariant-loop-trace g l = record {
  text : l.output.items ++ flat_map trace_line l.trace-iterator ≡ l.initial.output.items ++ flat_map trace_line l.initial.trace-iterator;
  room : length l.output.items + length (flat_map trace_line l.trace-iterator) ≤ vec_capacity l.output;
  grown : vec_capacity l.initial.output ≤ vec_capacity l.output;
}
