use Rattle.std.proofs.Common.{◌≡◌, ◌≢◌, ◌<◌, ◌≤◌, ◌+◌, ◌-◌, ◌++◌, ℕ, List, [], true, false, Option}
use Rattle.std.specs.Vec.{vec_len}
use Rattle.std.specs.Io.KnownBytes.{Consumes}
use Rattle.ocp_ports.specs.Reading.{LeavesWhile}
use Rattle.ocp_lines.specs.Reading.{IsWithin}
use Rattle.ocp_lines.specs.Lines.{is_one_line, octets_left, HasRead}
use Rattle.ocp_lines.proofs.lines.Lines.read.Given as goal

abbrev pub invariant-loop-reader : goal.invariant-loop-reader
invariant-loop-reader g l = record {
  fed : (fed : List ℕ) × Consumes (g.R.Source.remaining l.initial.reader) (g.R.Source.remaining l.reader) fed × (octets_left l.initial.self ++ fed ≡ l.self.line.items ++ octets_left l.self);
  one : is_one_line l.self.line.items ≡ true;
  short : vec_len l.self.line ≤ 40000;
  room : l.self.line.items ≢ [] → l.self.number < 100000;
  number : l.self.number ≡ l.initial.self.number;
  over : l.self.is_over ≡ false;
  begun : l.initial.self.is_over ≡ false;
  apart : l.self.first ≡ l.self.last;
  reads :
      (input : Option (List ℕ)) (front : List ℕ) → Consumes input (g.R.Source.remaining l.initial.reader) front → HasRead l.initial.self.number l.initial.self.is_over (octets_left l.initial.self) front
      → LeavesWhile IsWithin input (g.R.Source.remaining l.initial.reader) → LeavesWhile IsWithin input (g.R.Source.remaining l.reader);
  same : g.R.Source.failed_reads l.reader ≡ g.R.Source.failed_reads l.initial.reader;
}

abbrev pub decreases-loop-reader : goal.decreases-loop-reader
decreases-loop-reader g l = (40001 - vec_len l.self.line) + (1 - (l.self.end - l.self.start))
