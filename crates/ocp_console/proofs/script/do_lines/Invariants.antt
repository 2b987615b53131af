use Rattle.std.proofs.Common.{◌≡◌, ◌-◌, true}
use Rattle.std.specs.Io.KnownBytes.{IsAtEnd}
use Rattle.ocp_ports.specs.Reading.{LeavesWhile}
use Rattle.ocp_lines.specs.Reading.{IsWithin}
use Rattle.ocp_console.specs.Answering.{opening, state_of}
use Rattle.ocp_lines.specs.Lines.{octets_left, lines_read, is_at_end}
use Rattle.ocp_console.proofs.Scripts.{Answered}
use Rattle.ocp_console.proofs.script.do_lines.Given as goal

abbrev pub invariant-loop-console : goal.invariant-loop-console
invariant-loop-console g l = record {
  answered :
      Answered (g.R.Source.remaining l.initial.reader) (g.R.Source.remaining l.reader) (g.W.Sink.contents l.initial.writer) (g.W.Sink.contents l.writer) (g.C.Crew.answers l.crew) (opening l.fn.settings) (state_of l.console) (lines_read l.lines)
      (is_at_end l.lines) (octets_left l.lines);
  end : is_at_end l.lines ≡ true → IsAtEnd (g.R.Source.remaining l.reader);
  within : LeavesWhile IsWithin (g.R.Source.remaining l.initial.reader) (g.R.Source.remaining l.reader);
  reads : g.R.Source.failed_reads l.reader ≡ g.R.Source.failed_reads l.initial.reader;
  writes : g.W.Sink.failed_writes l.writer ≡ g.W.Sink.failed_writes l.initial.writer;
}

abbrev pub decreases-loop-console : goal.decreases-loop-console
decreases-loop-console g l = 100001 - lines_read l.lines
