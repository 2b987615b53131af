use Rattle.std.proofs.Common.{◌≡◌, ◌+◌, refl, subst, sym, ◌∙◌, arith}
use Rattle.ocp_table.specs.declared.answers.StepOutcome.TheVariants as S
use Rattle.ocp_table.specs.Shown.{record_of}
use Rattle.ocp_table.specs.Slices.{last_ran, is_running_status, IsSlice, Store, most_events}
use Rattle.ocp_table.proofs.Slicing.{running_is, still-slice, still-step, most-some, sliced-none, with_stretch, sliced-run, sliced-event, sliced-end, sliced-round, sliced-step, sliced-whole, sliced-none-ended, ran_some, goes_then, goes_else, round_ends, round_none}
use Rattle.ocp_table.proofs.record.Record.instructions.Goals as goal
use Rattle.ocp_table.proofs.record.Record.instructions.Goals.{then-is_on, else-is_on}

pub loop-count-init : goal.loop-count-init
loop-count-init g c = record {
  within = omega arith;
  place = c.requires.place;
  done = refl;
  sliced = sliced-none c.args.extent c.args.self.now c.args.outbox.now.items c.args.pool.now (running_is c.args.self.now.control.status (sym c.is_running.ensures ∙ c.if-not-is_running.false));
}

pub returns-then-count-budget-clause-slice : goal.returns-then-count-budget-clause-slice
returns-then-count-budget-clause-slice g c m held =
    let ran = sliced-run c.args.extent c.args.self.now c.loop-count.self c.args.outbox.now.items c.loop-count.outbox.items c.args.pool.now c.loop-count.pool c.loop-count.count c.loop-count.last _ c.advance-count.new.self c.advance-count.new.pass c.advance-count.new.remaining c.advance-count.result c.loop-count.invariant.sliced
    (record { places = c.as_slice.ensures.value; ran = c.advance-count.ensures.ran; within = c.advance-count.ensures.left; image = c.advance-count.ensures.image; passed = c.advance-count.ensures.pass; taken = c.advance-count.ensures.remaining }) in
    let last : last_ran c.advance-count.result c.loop-count.last ≡ S.Ran = ran_some c.advance-count.result c.loop-count.last (omega arith) in
    let whole = sliced-whole c.args.extent c.args.self.now (with_stretch c.loop-count.self c.advance-count.new.self c.advance-count.new.pass c.advance-count.new.remaining) c.args.outbox.now.items c.loop-count.outbox.items c.args.pool.now c.loop-count.pool (c.loop-count.count + c.advance-count.result) _ ran c.args.budget c.if-count-budget.true m held in
    let start : Store = (record { records = m; outbox = c.args.outbox.now.items; pool = c.args.pool.now }) in
    subst (λ o. IsSlice c.args.self.now.id start (most_events c.args.extent c.args.self.now.id start c.args.budget) (record { count = c.loop-count.count + c.advance-count.result; last = o }) (record_of (with_stretch c.loop-count.self c.advance-count.new.self c.advance-count.new.pass c.advance-count.new.remaining)) c.loop-count.outbox.items c.loop-count.pool) last whole

pub returns-then-count-budget-clause-step : goal.returns-then-count-budget-clause-step
returns-then-count-budget-clause-step g c is m held =
    let ran = sliced-run c.args.extent c.args.self.now c.loop-count.self c.args.outbox.now.items c.loop-count.outbox.items c.args.pool.now c.loop-count.pool c.loop-count.count c.loop-count.last _ c.advance-count.new.self c.advance-count.new.pass c.advance-count.new.remaining c.advance-count.result c.loop-count.invariant.sliced
    (record { places = c.as_slice.ensures.value; ran = c.advance-count.ensures.ran; within = c.advance-count.ensures.left; image = c.advance-count.ensures.image; passed = c.advance-count.ensures.pass; taken = c.advance-count.ensures.remaining }) in
    sliced-none-ended c.args.extent c.args.self.now (with_stretch c.loop-count.self c.advance-count.new.self c.advance-count.new.pass c.advance-count.new.remaining) c.args.outbox.now.items c.loop-count.outbox.items c.args.pool.now c.loop-count.pool (c.loop-count.count + c.advance-count.result) _ ran is m held

pub returns-then-not-goes_on-clause-slice : goal.returns-then-not-goes_on-clause-slice
returns-then-not-goes_on-clause-slice g c m held =
    let ran = sliced-run c.args.extent c.args.self.now c.loop-count.self c.args.outbox.now.items c.loop-count.outbox.items c.args.pool.now c.loop-count.pool c.loop-count.count c.loop-count.last _ c.advance-count.new.self c.advance-count.new.pass c.advance-count.new.remaining c.advance-count.result c.loop-count.invariant.sliced
    (record { places = c.as_slice.ensures.value; ran = c.advance-count.ensures.ran; within = c.advance-count.ensures.left; image = c.advance-count.ensures.image; passed = c.advance-count.ensures.pass; taken = c.advance-count.ensures.remaining }) in
    sliced-end c.args.extent c.args.self.now (with_stretch c.loop-count.self c.advance-count.new.self c.advance-count.new.pass c.advance-count.new.remaining) c.event-answer.new.self c.args.outbox.now.items c.loop-count.outbox.items c.event-answer.new.outbox.items c.args.pool.now c.loop-count.pool c.event-answer.new.pool (c.loop-count.count + c.advance-count.result) _ c.event-answer.result.outcome c.event-answer.result.step ran
    (record { answer = c.event-answer.ensures.answer; ended = c.event-answer.ensures.step; made = c.event-answer.ensures.record; filed_is = c.event-answer.ensures.outbox; pooled = c.event-answer.ensures.pool; same = c.event-answer.ensures.id })
    m held c.args.budget (omega arith) (sym (elim c.if-is_on.branch [
      | then-is_on w ↦ goes_then c.event-answer.result.outcome (is_running_status c.event-answer.new.self.control.status) c.is_on.ensures w.if-is_on.true (w.goes_on-is ∙ w.is_running-goes_on.ensures)
      | else-is_on w ↦ goes_else c.event-answer.result.outcome (is_running_status c.event-answer.new.self.control.status) c.is_on.ensures w.if-is_on.false (w.goes_on-is ∙ w.if-is_on.false)
    ]) ∙ c.if-not-goes_on.true)

pub returns-then-not-goes_on-clause-step : goal.returns-then-not-goes_on-clause-step
returns-then-not-goes_on-clause-step g c is m held =
    let ran = sliced-run c.args.extent c.args.self.now c.loop-count.self c.args.outbox.now.items c.loop-count.outbox.items c.args.pool.now c.loop-count.pool c.loop-count.count c.loop-count.last _ c.advance-count.new.self c.advance-count.new.pass c.advance-count.new.remaining c.advance-count.result c.loop-count.invariant.sliced
    (record { places = c.as_slice.ensures.value; ran = c.advance-count.ensures.ran; within = c.advance-count.ensures.left; image = c.advance-count.ensures.image; passed = c.advance-count.ensures.pass; taken = c.advance-count.ensures.remaining }) in
    sliced-step c.args.extent c.args.self.now (with_stretch c.loop-count.self c.advance-count.new.self c.advance-count.new.pass c.advance-count.new.remaining) c.event-answer.new.self c.args.outbox.now.items c.loop-count.outbox.items c.event-answer.new.outbox.items c.args.pool.now c.loop-count.pool c.event-answer.new.pool (c.loop-count.count + c.advance-count.result) _ c.event-answer.result.outcome c.event-answer.result.step ran
    (record { answer = c.event-answer.ensures.answer; ended = c.event-answer.ensures.step; made = c.event-answer.ensures.record; filed_is = c.event-answer.ensures.outbox; pooled = c.event-answer.ensures.pool; same = c.event-answer.ensures.id })
    m held

pub returns-then-not-goes_on-clause-done : goal.returns-then-not-goes_on-clause-done
returns-then-not-goes_on-clause-done g c on =
    let ran = sliced-run c.args.extent c.args.self.now c.loop-count.self c.args.outbox.now.items c.loop-count.outbox.items c.args.pool.now c.loop-count.pool c.loop-count.count c.loop-count.last _ c.advance-count.new.self c.advance-count.new.pass c.advance-count.new.remaining c.advance-count.result c.loop-count.invariant.sliced
    (record { places = c.as_slice.ensures.value; ran = c.advance-count.ensures.ran; within = c.advance-count.ensures.left; image = c.advance-count.ensures.image; passed = c.advance-count.ensures.pass; taken = c.advance-count.ensures.remaining }) in
    c.event-answer.ensures.done ran.running

pub returns-then-ends_with-clause-slice : goal.returns-then-ends_with-clause-slice
returns-then-ends_with-clause-slice g c m held =
    let ran = sliced-run c.args.extent c.args.self.now c.loop-count.self c.args.outbox.now.items c.loop-count.outbox.items c.args.pool.now c.loop-count.pool c.loop-count.count c.loop-count.last _ c.advance-count.new.self c.advance-count.new.pass c.advance-count.new.remaining c.advance-count.result c.loop-count.invariant.sliced
    (record { places = c.as_slice.ensures.value; ran = c.advance-count.ensures.ran; within = c.advance-count.ensures.left; image = c.advance-count.ensures.image; passed = c.advance-count.ensures.pass; taken = c.advance-count.ensures.remaining }) in
    let ends = round_ends c.args.extent c.event-answer.result.step (sym c.ends_with.ensures ∙ c.if-ends_with.true) in
    sliced-round c.args.extent c.args.self.now (with_stretch c.loop-count.self c.advance-count.new.self c.advance-count.new.pass c.advance-count.new.remaining) c.event-answer.new.self c.args.outbox.now.items c.loop-count.outbox.items c.event-answer.new.outbox.items c.args.pool.now c.loop-count.pool c.event-answer.new.pool (c.loop-count.count + c.advance-count.result) _ c.event-answer.result.outcome c.event-answer.result.step ran
    (record { answer = c.event-answer.ensures.answer; ended = c.event-answer.ensures.step; made = c.event-answer.ensures.record; filed_is = c.event-answer.ensures.outbox; pooled = c.event-answer.ensures.pool; same = c.event-answer.ensures.id })
    m held c.args.budget (omega arith) ends.0 ends.1

pub returns-then-ends_with-clause-step : goal.returns-then-ends_with-clause-step
returns-then-ends_with-clause-step g c is m held =
    let ran = sliced-run c.args.extent c.args.self.now c.loop-count.self c.args.outbox.now.items c.loop-count.outbox.items c.args.pool.now c.loop-count.pool c.loop-count.count c.loop-count.last _ c.advance-count.new.self c.advance-count.new.pass c.advance-count.new.remaining c.advance-count.result c.loop-count.invariant.sliced
    (record { places = c.as_slice.ensures.value; ran = c.advance-count.ensures.ran; within = c.advance-count.ensures.left; image = c.advance-count.ensures.image; passed = c.advance-count.ensures.pass; taken = c.advance-count.ensures.remaining }) in
    sliced-step c.args.extent c.args.self.now (with_stretch c.loop-count.self c.advance-count.new.self c.advance-count.new.pass c.advance-count.new.remaining) c.event-answer.new.self c.args.outbox.now.items c.loop-count.outbox.items c.event-answer.new.outbox.items c.args.pool.now c.loop-count.pool c.event-answer.new.pool (c.loop-count.count + c.advance-count.result) _ c.event-answer.result.outcome c.event-answer.result.step ran
    (record { answer = c.event-answer.ensures.answer; ended = c.event-answer.ensures.step; made = c.event-answer.ensures.record; filed_is = c.event-answer.ensures.outbox; pooled = c.event-answer.ensures.pool; same = c.event-answer.ensures.id })
    m held

pub returns-then-ends_with-clause-done : goal.returns-then-ends_with-clause-done
returns-then-ends_with-clause-done g c on =
    let ran = sliced-run c.args.extent c.args.self.now c.loop-count.self c.args.outbox.now.items c.loop-count.outbox.items c.args.pool.now c.loop-count.pool c.loop-count.count c.loop-count.last _ c.advance-count.new.self c.advance-count.new.pass c.advance-count.new.remaining c.advance-count.result c.loop-count.invariant.sliced
    (record { places = c.as_slice.ensures.value; ran = c.advance-count.ensures.ran; within = c.advance-count.ensures.left; image = c.advance-count.ensures.image; passed = c.advance-count.ensures.pass; taken = c.advance-count.ensures.remaining }) in
    c.event-answer.ensures.done ran.running

pub loop-count-preserved : goal.loop-count-preserved
loop-count-preserved g c =
    let ran = sliced-run c.args.extent c.args.self.now c.loop-count.self c.args.outbox.now.items c.loop-count.outbox.items c.args.pool.now c.loop-count.pool c.loop-count.count c.loop-count.last _ c.advance-count.new.self c.advance-count.new.pass c.advance-count.new.remaining c.advance-count.result c.loop-count.invariant.sliced
    (record { places = c.as_slice.ensures.value; ran = c.advance-count.ensures.ran; within = c.advance-count.ensures.left; image = c.advance-count.ensures.image; passed = c.advance-count.ensures.pass; taken = c.advance-count.ensures.remaining }) in
    record {
      within = omega arith;
      place = c.event-answer.ensures.place;
      done = c.event-answer.ensures.done ran.running;
      sliced = sliced-event c.args.extent c.args.self.now (with_stretch c.loop-count.self c.advance-count.new.self c.advance-count.new.pass c.advance-count.new.remaining) c.event-answer.new.self c.args.outbox.now.items c.loop-count.outbox.items c.event-answer.new.outbox.items c.args.pool.now c.loop-count.pool c.event-answer.new.pool (c.loop-count.count + c.advance-count.result) _ c.event-answer.result.outcome c.event-answer.result.step ran
          (record { answer = c.event-answer.ensures.answer; ended = c.event-answer.ensures.step; made = c.event-answer.ensures.record; filed_is = c.event-answer.ensures.outbox; pooled = c.event-answer.ensures.pool; same = c.event-answer.ensures.id })
          (sym (elim c.if-is_on.branch [
            | then-is_on w ↦ goes_then c.event-answer.result.outcome (is_running_status c.event-answer.new.self.control.status) c.is_on.ensures w.if-is_on.true (w.goes_on-is ∙ w.is_running-goes_on.ensures)
            | else-is_on w ↦ goes_else c.event-answer.result.outcome (is_running_status c.event-answer.new.self.control.status) c.is_on.ensures w.if-is_on.false (w.goes_on-is ∙ w.if-is_on.false)
          ]) ∙ c.if-not-goes_on.false)
          (round_none c.args.extent c.event-answer.result.step (sym c.ends_with.ensures ∙ c.if-ends_with.false));
    }

pub returns-clause-slice : goal.returns-clause-slice
returns-clause-slice g c m held =
    sliced-whole c.args.extent c.args.self.now c.loop-count.self c.args.outbox.now.items c.loop-count.outbox.items c.args.pool.now c.loop-count.pool c.loop-count.count c.loop-count.last c.loop-count.invariant.sliced c.args.budget (omega arith) m held

pub returns-clause-step : goal.returns-clause-step
returns-clause-step g c is m held =
    sliced-none-ended c.args.extent c.args.self.now c.loop-count.self c.args.outbox.now.items c.loop-count.outbox.items c.args.pool.now c.loop-count.pool c.loop-count.count c.loop-count.last c.loop-count.invariant.sliced is m held

pub returns-then-not-is_running-clause-slice : goal.returns-then-not-is_running-clause-slice
returns-then-not-is_running-clause-slice g c m held =
    let start : Store = (record { records = m; outbox = c.args.outbox.now.items; pool = c.args.pool.now }) in
    still-slice c.args.self.now.id m c.args.outbox.now.items c.args.pool.now (most_events c.args.extent c.args.self.now.id start c.args.budget) (record_of c.args.self.now) held (sym c.is_running.ensures ∙ c.if-not-is_running.true) (most-some c.args.extent c.args.self.now.id c.args.budget start c.requires.budget)

pub returns-then-not-is_running-clause-step : goal.returns-then-not-is_running-clause-step
returns-then-not-is_running-clause-step g c is m held =
    still-step c.args.self.now.id m c.args.outbox.now.items c.args.pool.now (record_of c.args.self.now) held (sym c.is_running.ensures ∙ c.if-not-is_running.true)
