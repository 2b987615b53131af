use Rattle.std.proofs.Common.{◌≡◌, ◌++◌, List, ℕ, length}
use Rattle.std.specs.Io.KnownBytes.{Appends}
use Rattle.ocp_ports.proofs.output.write_whole.Given as goal

abbrev pub invariant-loop-rest : goal.invariant-loop-rest
invariant-loop-rest g l = record {
  parts : (sent : List ℕ) × (l.octets ≡ sent ++ l.rest) × Appends (g.W.Sink.contents l.initial.writer) (g.W.Sink.contents l.writer) sent;
  same : g.W.Sink.failed_writes l.writer ≡ g.W.Sink.failed_writes l.initial.writer;
}

abbrev pub decreases-loop-rest : goal.decreases-loop-rest
decreases-loop-rest g l = length l.rest
