use Rattle.std.proofs.Common.{Ok, Err, arith}
use Rattle.ocp_console.specs.Script.{WritesScript}
use Rattle.ocp_console.proofs.Scripts.{run_refused}
use Rattle.ocp_console.proofs.Telling.{tells_refused, tells_read, adds_none}
use Rattle.ocp_console.proofs.Workless.{without_work}
use Rattle.ocp_console.proofs.script.run.Goals as goal

pub refuse-requires : goal.refuse-requires
refuse-requires g c = λ some. omega (arith, c.in-Err.ensures.no_write (λ q. some (adds_none c.in-Err.fault q)), c.requires.writes)

pub returns-in-Ok-clause-transcript : goal.returns-in-Ok-clause-transcript
returns-in-Ok-clause-transcript g c = without_work (g.R.Source.remaining c.args.reader.now) (g.W.Sink.contents c.args.writer.now) (g.W.Sink.contents c.do_lines.new.writer) (g.C.Crew.answers c.args.crew.now) c.args.settings (Ok tt) c.in-Ok.ensures.run

pub returns-clause-work : goal.returns-clause-work
returns-clause-work g c =
    run_refused (g.R.Source.remaining c.args.reader.now) (g.W.Sink.contents c.args.writer.now) (g.W.Sink.contents c.do_lines.new.writer) (g.W.Sink.contents c.refuse.new.writer) (WritesScript (g.C.Crew.answers c.args.crew.now) c.args.settings) c.in-Err.fault (Err c.refuse.result)
    c.in-Err.ensures.run c.refuse.ensures.prints

pub returns-clause-transcript : goal.returns-clause-transcript
returns-clause-transcript g c =
    without_work (g.R.Source.remaining c.args.reader.now) (g.W.Sink.contents c.args.writer.now) (g.W.Sink.contents c.refuse.new.writer) (g.C.Crew.answers c.args.crew.now) c.args.settings (Err c.refuse.result) (returns-clause-work g c)

pub returns-clause-read : goal.returns-clause-read
returns-clause-read g c = tells_read _ _ c.in-Err.fault c.refuse.result c.refuse.ensures.read c.in-Err.ensures.read

pub returns-clause-write : goal.returns-clause-write
returns-clause-write g c = tells_refused _ _ _ c.in-Err.fault c.refuse.result c.refuse.ensures.kept c.refuse.ensures.write c.in-Err.ensures.write c.in-Err.ensures.no_write
