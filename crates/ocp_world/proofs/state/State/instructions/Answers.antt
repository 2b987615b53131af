use Rattle.std.proofs.Common.{◌≡◌, true, false, inl, inr, refl, sym, subst, ◌∙◌, arith}
use Rattle.ocp_table.proofs.Slicing.{round_ends, round_none}
use Rattle.ocp_world.proofs.Counting.{accepted_runs, slice_counted}
use Rattle.ocp_world.proofs.Stretches.{sliced, sliced_count as table_count, sliced_last as table_last, sliced_step as table_step}
use Rattle.ocp_world.specs.Round.{most_events}
use Rattle.ocp_table.specs.declared.answers.StepOutcome.TheVariants.{Ran}
use Rattle.ocp_table.specs.Slices.{ends_with}
use Rattle.ocp_world.proofs.Slicing.{IsSliced, IsSliced-none, IsSliced-more, sliced_world, sliced_events, sliced_done, sliced_step, ended_count, ended_last, whole_is_counted, whole_is_answered, whole_ends_none}
use Rattle.ocp_world.proofs.state.State.instructions.Goals.{then-not-goes_on, else-not-goes_on}
use Rattle.ocp_world.proofs.state.State.instructions.Goals as goal

pub returns-in-Some-clause-world : goal.returns-in-Some-clause-world
returns-in-Some-clause-world g c = sliced c.args.self.now _ c.args.id c.in-Some.round.count c.in-Some.ensures.untraced c.in-Some.ensures.store c.in-Some.ensures.profile refl refl refl

pub returns-in-Some-clause-events : goal.returns-in-Some-clause-events
returns-in-Some-clause-events g c w by stands first =
    slice_counted by c.args.id w (most_events c.args.extent w by c.args.id c.args.budget) c.in-Some.round.count c.in-Some.round.last
    (table_count c.args.extent c.args.self.now c.args.id c.args.budget c.in-Some.round.count c.in-Some.ensures.count w by stands)
    (table_last c.args.extent c.args.self.now c.args.id c.args.budget _ c.in-Some.round.last c.in-Some.ensures.last w by stands)
    (c.in-Some.ensures.done (accepted_runs by c.args.id c.args.self.now.table.records w stands.records first))

pub returns-in-Some-clause-done : goal.returns-in-Some-clause-done
returns-in-Some-clause-done g c w by stands first = c.in-Some.ensures.done (accepted_runs by c.args.id c.args.self.now.table.records w stands.records first)

pub returns-in-Some-clause-count : goal.returns-in-Some-clause-count
returns-in-Some-clause-count g c = table_count c.args.extent c.args.self.now c.args.id c.args.budget c.in-Some.round.count c.in-Some.ensures.count

pub returns-in-Some-clause-last : goal.returns-in-Some-clause-last
returns-in-Some-clause-last g c = table_last c.args.extent c.args.self.now c.args.id c.args.budget _ c.in-Some.round.last c.in-Some.ensures.last

pub returns-in-Some-clause-step : goal.returns-in-Some-clause-step
returns-in-Some-clause-step g c w by stands is = table_step c.args.self.now c.args.id c.in-Some.round.count c.in-Some.round.step (c.in-Some.ensures.step is) w by stands

pub returns-then-is_last-clause-world : goal.returns-then-is_last-clause-world
returns-then-is_last-clause-world g c = sliced_world c.args.extent c.args.self.now c.loop-done.self c.instruction-answer.new.self c.args.id c.loop-done.done c.loop-done.last c.instruction-answer.result.outcome c.instruction-answer.result.step c.goes_on.result c.loop-done.invariant (record { world = c.instruction-answer.ensures.world; answer = c.instruction-answer.ensures.answer; ended = c.instruction-answer.ensures.step; goes = c.goes_on.ensures.goes; accepted = c.goes_on.ensures.accepted })

pub returns-then-is_last-clause-events : goal.returns-then-is_last-clause-events
returns-then-is_last-clause-events g c w by stands = sliced_events c.args.extent c.args.self.now c.loop-done.self c.instruction-answer.new.self c.args.id c.loop-done.done c.loop-done.last c.instruction-answer.result.outcome c.instruction-answer.result.step c.goes_on.result c.loop-done.invariant (record { world = c.instruction-answer.ensures.world; answer = c.instruction-answer.ensures.answer; ended = c.instruction-answer.ensures.step; goes = c.goes_on.ensures.goes; accepted = c.goes_on.ensures.accepted }) w by stands

pub returns-then-is_last-clause-done : goal.returns-then-is_last-clause-done
returns-then-is_last-clause-done g c w by stands = sliced_done c.args.extent c.args.self.now c.loop-done.self c.instruction-answer.new.self c.args.id c.loop-done.done c.loop-done.last c.instruction-answer.result.outcome c.instruction-answer.result.step c.goes_on.result c.loop-done.invariant (record { world = c.instruction-answer.ensures.world; answer = c.instruction-answer.ensures.answer; ended = c.instruction-answer.ensures.step; goes = c.goes_on.ensures.goes; accepted = c.goes_on.ensures.accepted }) w by stands

pub returns-then-is_last-clause-count : goal.returns-then-is_last-clause-count
returns-then-is_last-clause-count g c w by stands = ended_count c.args.extent c.args.self.now c.loop-done.self c.instruction-answer.new.self c.args.id c.loop-done.done c.loop-done.last c.instruction-answer.result.outcome c.instruction-answer.result.step c.goes_on.result c.loop-done.invariant (record { world = c.instruction-answer.ensures.world; answer = c.instruction-answer.ensures.answer; ended = c.instruction-answer.ensures.step; goes = c.goes_on.ensures.goes; accepted = c.goes_on.ensures.accepted }) w by stands c.args.budget c.loop-done-test.true (elim c.if-not-goes_on.branch [
  | then-not-goes_on u ↦ inl u.if-not-goes_on.true
  | else-not-goes_on u ↦ inr (round_ends c.args.extent c.instruction-answer.result.step (sym u.ends_with-is_last.ensures ∙ sym u.is_last-is ∙ c.if-is_last.true))
])

pub returns-then-is_last-clause-last : goal.returns-then-is_last-clause-last
returns-then-is_last-clause-last g c w by stands = ended_last c.args.extent c.args.self.now c.loop-done.self c.instruction-answer.new.self c.args.id c.loop-done.done c.loop-done.last c.instruction-answer.result.outcome c.instruction-answer.result.step c.goes_on.result c.loop-done.invariant (record { world = c.instruction-answer.ensures.world; answer = c.instruction-answer.ensures.answer; ended = c.instruction-answer.ensures.step; goes = c.goes_on.ensures.goes; accepted = c.goes_on.ensures.accepted }) w by stands c.args.budget c.loop-done-test.true (elim c.if-not-goes_on.branch [
  | then-not-goes_on u ↦ inl u.if-not-goes_on.true
  | else-not-goes_on u ↦ inr (round_ends c.args.extent c.instruction-answer.result.step (sym u.ends_with-is_last.ensures ∙ sym u.is_last-is ∙ c.if-is_last.true))
])

pub returns-then-is_last-clause-step : goal.returns-then-is_last-clause-step
returns-then-is_last-clause-step g c w by stands is = sliced_step c.args.extent c.args.self.now c.loop-done.self c.instruction-answer.new.self c.args.id c.loop-done.done c.loop-done.last c.instruction-answer.result.outcome c.instruction-answer.result.step c.goes_on.result c.loop-done.invariant (record { world = c.instruction-answer.ensures.world; answer = c.instruction-answer.ensures.answer; ended = c.instruction-answer.ensures.step; goes = c.goes_on.ensures.goes; accepted = c.goes_on.ensures.accepted }) w by stands

pub loop-done-preserved : goal.loop-done-preserved
loop-done-preserved g c =
    let on : (c.goes_on.result ≡ true) × (ends_with c.args.extent c.instruction-answer.result.step ≡ false) = elim c.if-not-goes_on.branch [
      | then-not-goes_on u ↦ absurd (cc (u.is_last-is, c.if-is_last.false))
      | else-not-goes_on u ↦ (u.if-not-goes_on.false, sym u.ends_with-is_last.ensures ∙ sym u.is_last-is ∙ c.if-is_last.false)
    ] in
    IsSliced-more c.args.extent c.args.self.now c.loop-done.self c.instruction-answer.new.self c.args.id c.loop-done.done c.loop-done.last c.instruction-answer.result.outcome c.instruction-answer.result.step c.goes_on.result c.loop-done.invariant (record { world = c.instruction-answer.ensures.world; answer = c.instruction-answer.ensures.answer; ended = c.instruction-answer.ensures.step; goes = c.goes_on.ensures.goes; accepted = c.goes_on.ensures.accepted }) on.0 (round_none c.args.extent c.instruction-answer.result.step on.1)

pub loop-done-init : goal.loop-done-init
loop-done-init g c =
    let kept = c.in_default.ensures.kept refl in
    subst (λ s. IsSliced c.args.extent c.args.self.now s c.args.id 0 Ran) (λ i. record c.args.self.now { table = sym kept.0 i; pool = sym kept.1 i }) (IsSliced-none c.args.extent c.args.self.now c.args.id)

pub returns-clause-done : goal.returns-clause-done
returns-clause-done g c = c.loop-done.invariant.done

pub returns-clause-count : goal.returns-clause-count
returns-clause-count g c w by stands = whole_is_counted c.args.extent c.args.self.now c.loop-done.self c.args.id c.loop-done.done c.args.budget c.loop-done.last c.loop-done.invariant (omega arith) w by stands

pub returns-clause-last : goal.returns-clause-last
returns-clause-last g c w by stands = whole_is_answered c.args.extent c.args.self.now c.loop-done.self c.args.id c.loop-done.done c.args.budget c.loop-done.last c.loop-done.invariant (omega arith) w by stands

pub returns-clause-step : goal.returns-clause-step
returns-clause-step g c w by stands = whole_ends_none c.args.extent c.args.self.now c.loop-done.self c.args.id c.loop-done.done c.args.budget c.loop-done.last c.loop-done.invariant (omega arith) w by stands
