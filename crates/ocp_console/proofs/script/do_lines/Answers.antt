use Rattle.std.proofs.Common.{◌∙◌, ◌++◌, [], List, ℕ, refl, sym, subst}
use Rattle.std.proofs.KnownBytes.{Appends-nil}
use Rattle.std.proofs.lemmas.Result.{err_from_is_err_and}
use Rattle.text_lines.specs.Lines.{lines_of}
use Rattle.ocp_ports.specs.declared.fault.ConsoleFault.TheVariants as faults
use Rattle.ocp_console.specs.Answering.{opening, state_of}
use Rattle.ocp_lines.specs.Lines.{octets_left, text_in, lines_read, is_at_end}
use Rattle.ocp_console.specs.Script.{WritesScript}
use Rattle.ocp_console.proofs.Runs.{IsDone, asked_of, done_alone, done_by_crew, line_done, stopped, no_next, no_answer, no_work, no_write}
use Rattle.ocp_console.proofs.Scripts.{not_begun, none_begun, line_answered, line_failed, run_failed, script_ended}
use Rattle.ocp_lines.proofs.Taking.{not_both, nothing_read}
use Rattle.ocp_console.proofs.script.do_lines.Goals as goal
use Rattle.ocp_console.proofs.script.do_lines.Goals.{in-Some-2+in_ok-console-2, in_default-2}

pub returns-in_err-console-clause-run : goal.returns-in_err-console-clause-run
returns-in_err-console-clause-run g c =
    let p = err_from_is_err_and c.from_residual.result c.from_residual.ensures.1 in
    let crew = g.C.Crew.answers c.args.crew.now in
    rw (p.1, p.2) (none_begun (g.R.Source.remaining c.args.reader.now) (g.W.Sink.contents c.args.writer.now) (WritesScript crew c.args.settings) faults.Memory
    (λ script later ending r. stopped crew (opening c.args.settings) 0 (lines_of script) faults.Memory later ending tt r))

pub returns-in_err-console-clause-reads : goal.returns-in_err-console-clause-reads
returns-in_err-console-clause-reads g c = nothing_read (g.R.Source.remaining c.args.reader.now)

pub loop-console-init : goal.loop-console-init
loop-console-init g c =
    let s = c.args.lines.now in
    record {
      answered =
          not_begun (g.R.Source.remaining c.args.reader.now) (g.W.Sink.contents c.args.writer.now) (g.C.Crew.answers c.args.crew.now) (opening c.args.settings) (state_of c.in_ok-console.console) (lines_read s) (is_at_end s) (octets_left s) c.in_ok-console.ensures
          c.requires.number c.requires.held;
      end = λ over. absurd (not_both (is_at_end s) c.requires.is_over over);
      within = nothing_read (g.R.Source.remaining c.args.reader.now);
      reads = refl;
      writes = refl;
    }

pub returns-in_err-number-clause-run : goal.returns-in_err-number-clause-run
returns-in_err-number-clause-run g c =
    let p = err_from_is_err_and c.from_residual-in_err-number.result c.from_residual-in_err-number.ensures.1 in
    let crew = g.C.Crew.answers c.args.crew.now in
    let s = c.loop-console.lines in
    let state = state_of c.loop-console.console in
    let h = c.in_err-number.ensures.lines in
    let e = c.in_err-number.field-0.0 in
    rw (p.1, p.2) (run_failed _ _ _ _ _ _ crew (opening c.args.settings) state (lines_read s) (is_at_end s) (octets_left s) h.0 [] e h.2.0 c.loop-console.invariant.answered h.1 (Appends-nil (g.W.Sink.contents c.loop-console.writer))
    (λ more later ending _ r. no_next crew state (lines_read s) (octets_left s ++ h.0) e h.2.1 more later ending r))

pub returns-in_err-shift-clause-run : goal.returns-in_err-shift-clause-run
returns-in_err-shift-clause-run g c =
    let p = err_from_is_err_and c.from_residual-in_err-shift.result c.from_residual-in_err-shift.ensures.1 in
    let crew = g.C.Crew.answers c.args.crew.now in
    let s = c.loop-console.lines in
    let t = c.next.new.self in
    let state = state_of c.loop-console.console in
    let h = rw c.in-Some.is at c.in_ok-number.ensures.lines in
    let n = h.2.3 in
    let e = c.in_err-shift.field-0.0 in
    rw (p.1, p.2) (line_failed _ _ _ _ _ _ crew (opening c.args.settings) state (lines_read s) (is_at_end s) (is_at_end t) (octets_left s) (octets_left t) h.0 (text_in t) [] e h.2.2 c.in_ok-number.ensures.end c.loop-console.invariant.answered h.1 n
    (Appends-nil (g.W.Sink.contents c.loop-console.writer))
    (λ lines later ending r.
    no_answer crew state (state_of c.answer.new.self) c.answer.new.self.output.items (lines_read s) c.in-Some.number n.line c.text.result.now e h.2.1 n.few n.short (n.is ∙ sym c.text.ensures) c.in_err-shift.ensures lines later ending r))

pub returns-in_err-console-2-clause-run : goal.returns-in_err-console-2-clause-run
returns-in_err-console-2-clause-run g c =
    let p = err_from_is_err_and c.from_residual-in_err-console-2.result c.from_residual-in_err-console-2.ensures.1 in
    let crew = g.C.Crew.answers c.args.crew.now in
    let s = c.loop-console.lines in
    let t = c.next.new.self in
    let a = c.answer.new.self in
    let state = state_of c.loop-console.console in
    let h = rw c.in-Some.is at c.in_ok-number.ensures.lines in
    let n = h.2.3 in
    let e = c.in_err-console-2.field-0.0 in
    let asked = asked_of state (state_of a) a.output.items c.in-Some.number c.text.result.now c.in_ok-shift.field-0 c.in-Some-2.shift c.in-Some-2.is c.in_ok-shift.ensures in
    rw (p.1, p.2) (line_failed _ _ _ _ _ _ crew (opening c.args.settings) state (lines_read s) (is_at_end s) (is_at_end t) (octets_left s) (octets_left t) h.0 (text_in t) [] e h.2.2 c.in_ok-number.ensures.end c.loop-console.invariant.answered h.1 n
    (Appends-nil (g.W.Sink.contents c.loop-console.writer))
    (λ lines later ending r. no_work crew state (state_of a) (lines_read s) n.line c.text.result.now c.in-Some-2.shift e n.few n.short (n.is ∙ sym c.text.ensures) asked c.in_err-console-2.ensures.refused lines later ending r))

pub loop-console-preserved : goal.loop-console-preserved
loop-console-preserved g c =
    let crew = g.C.Crew.answers c.args.crew.now in
    let s = c.loop-console.lines in
    let t = c.next.new.self in
    let a = c.answer.new.self in
    let m = c.match-branch-5.console in
    let state = state_of c.loop-console.console in
    let h = rw c.in-Some.is at c.in_ok-number.ensures.lines in
    let n = h.2.3 in
    let inv = c.loop-console.invariant in
    let text : List ℕ = c.text.result.now in
    let done : IsDone crew state text (state_of m) m.output.items = elim c.match-branch-5.branch [
      | in-Some-2+in_ok-console-2 w ↦ rw w.console-is (done_by_crew crew state (state_of a) _ a.output.items _ c.in-Some.number text c.in_ok-shift.field-0 w.in-Some-2.shift w.in-Some-2.is c.in_ok-shift.ensures w.in_ok-console-2.ensures.done)
      | in_default-2 w ↦ rw w.console-is (done_alone crew state (state_of a) a.output.items c.in-Some.number text c.in_ok-shift.field-0 w.in_default-2.is c.in_ok-shift.ensures)
    ] in
    let said : IsDone crew state text (state_of m) c.as_slice.result.now = subst (λ (o : List ℕ). IsDone crew state text (state_of m) o) (sym c.as_slice.ensures.value) done in
    record {
      answered =
          line_answered _ _ _ _ _ _ crew (opening c.args.settings) state (state_of m) (lines_read s) (lines_read t) (is_at_end s) (is_at_end t) (octets_left s) (octets_left t) h.0 (text_in t) c.as_slice.result.now h.2.2 (sym h.2.0 ∙ h.2.1) inv.answered h.1 n
          c.in_ok-write_whole.ensures.octets (λ lines later ending w. line_done crew state (state_of m) (lines_read s) n.line text c.as_slice.result.now n.few n.short (n.is ∙ sym c.text.ensures) said lines later ending w);
      end = c.in_ok-number.ensures.end;
      within = c.next.ensures.reads (g.R.Source.remaining c.args.reader.now) inv.answered.0 inv.answered.1 inv.answered.2 inv.within;
      reads = c.in_ok-number.ensures.count ∙ inv.reads;
      writes = c.in_ok-write_whole.ensures.count ∙ inv.writes;
    }

pub returns-in_err-write_whole-clause-run : goal.returns-in_err-write_whole-clause-run
returns-in_err-write_whole-clause-run g c =
    let p = err_from_is_err_and c.from_residual-in_err-write_whole.result c.from_residual-in_err-write_whole.ensures.1 in
    let crew = g.C.Crew.answers c.args.crew.now in
    let s = c.loop-console.lines in
    let t = c.next.new.self in
    let a = c.answer.new.self in
    let m = c.match-branch-5.console in
    let state = state_of c.loop-console.console in
    let h = rw c.in-Some.is at c.in_ok-number.ensures.lines in
    let n = h.2.3 in
    let text : List ℕ = c.text.result.now in
    let e = c.in_err-write_whole.field-0.0 in
    let done : IsDone crew state text (state_of m) m.output.items = elim c.match-branch-5.branch [
      | in-Some-2+in_ok-console-2 w ↦ rw w.console-is (done_by_crew crew state (state_of a) _ a.output.items _ c.in-Some.number text c.in_ok-shift.field-0 w.in-Some-2.shift w.in-Some-2.is c.in_ok-shift.ensures w.in_ok-console-2.ensures.done)
      | in_default-2 w ↦ rw w.console-is (done_alone crew state (state_of a) a.output.items c.in-Some.number text c.in_ok-shift.field-0 w.in_default-2.is c.in_ok-shift.ensures)
    ] in
    let said : IsDone crew state text (state_of m) c.as_slice.result.now = subst (λ (o : List ℕ). IsDone crew state text (state_of m) o) (sym c.as_slice.ensures.value) done in
    let sent = no_write _ _ crew state (state_of m) (lines_read s) n.line text c.as_slice.result.now e n.few n.short (n.is ∙ sym c.text.ensures) said c.in_err-write_whole.ensures.octets in
    rw (p.1, p.2) (line_failed _ _ _ _ _ _ crew (opening c.args.settings) state (lines_read s) (is_at_end s) (is_at_end t) (octets_left s) (octets_left t) h.0 (text_in t) sent.0 e h.2.2 c.in_ok-number.ensures.end c.loop-console.invariant.answered h.1 n sent.1 sent.2)

pub returns-clause-run : goal.returns-clause-run
returns-clause-run g c =
    let s = c.loop-console.lines in
    let h = rw c.in_default.is at c.in_ok-number.ensures.lines in
    script_ended _ _ _ _ _ (g.C.Crew.answers c.args.crew.now) (opening c.args.settings) (state_of c.loop-console.console) (lines_read s) (is_at_end s) (octets_left s) h.0 c.loop-console.invariant.answered h.1 h.2.0 h.2.1

pub returns-in_err-number-clause-reads : goal.returns-in_err-number-clause-reads
returns-in_err-number-clause-reads g c = let inv = c.loop-console.invariant in c.next.ensures.reads (g.R.Source.remaining c.args.reader.now) inv.answered.0 inv.answered.1 inv.answered.2 inv.within

pub returns-in_err-shift-clause-reads : goal.returns-in_err-shift-clause-reads
returns-in_err-shift-clause-reads g c = let inv = c.loop-console.invariant in c.next.ensures.reads (g.R.Source.remaining c.args.reader.now) inv.answered.0 inv.answered.1 inv.answered.2 inv.within

pub returns-in_err-console-2-clause-reads : goal.returns-in_err-console-2-clause-reads
returns-in_err-console-2-clause-reads g c = let inv = c.loop-console.invariant in c.next.ensures.reads (g.R.Source.remaining c.args.reader.now) inv.answered.0 inv.answered.1 inv.answered.2 inv.within

pub returns-in_err-write_whole-clause-reads : goal.returns-in_err-write_whole-clause-reads
returns-in_err-write_whole-clause-reads g c = let inv = c.loop-console.invariant in c.next.ensures.reads (g.R.Source.remaining c.args.reader.now) inv.answered.0 inv.answered.1 inv.answered.2 inv.within

pub returns-clause-reads : goal.returns-clause-reads
returns-clause-reads g c = let inv = c.loop-console.invariant in c.next.ensures.reads (g.R.Source.remaining c.args.reader.now) inv.answered.0 inv.answered.1 inv.answered.2 inv.within
