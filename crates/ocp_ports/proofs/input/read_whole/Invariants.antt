use Rattle.std.proofs.Common.{◌≡◌, ◌≤◌, ◌-◌, length}
use Rattle.std.specs.Io.KnownBytes.{Consumes}
use Rattle.ocp_ports.proofs.input.read_whole.Given as goal

abbrev pub invariant-loop-count : goal.invariant-loop-count
invariant-loop-count g l = record {
  room : length l.chunk ≡ 4096;
  input : Consumes (g.R.Source.remaining l.initial.reader) (g.R.Source.remaining l.reader) l.input.items;
  few : length l.input.items ≤ 1048576;
  reads : g.R.Source.failed_reads l.reader ≡ g.R.Source.failed_reads l.initial.reader;
}

abbrev pub decreases-loop-count : goal.decreases-loop-count
decreases-loop-count g l = 1048577 - length l.input.items
