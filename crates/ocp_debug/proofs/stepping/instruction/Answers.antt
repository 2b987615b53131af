use Rattle.std.proofs.Common.{◌++◌, ap, ◌∙◌}
use Rattle.std.specs.Prelude.{option_to_list}
use Rattle.std.specs.FinMap.{get}
use Rattle.ocp_table.specs.Effects.{step_outcome}
use Rattle.ocp_table.specs.RequestTable.{Step}
use Rattle.ocp_table.specs.Deciding.{effect_in}
use Rattle.ocp_debug.specs.Traces.{last_traces}
use Rattle.ocp_debug.specs.Mirror.Tracing.{traced_place, trace_after}
use Rattle.ocp_debug.proofs.Tracing.{traced}
use Rattle.ocp_debug.proofs.stepping.instruction.Goals as goal

pub returns-clause-ring : goal.returns-clause-ring
returns-clause-ring g c =
    c.note.ensures
    ∙ ap (λ made. last_traces (c.args.ring.now ++ made))
    (ap (λ place. option_to_list (trace_after c.args.id place c.instruction_at-answer.result.outcome (get c.instruction_at-answer.new.self.records c.args.id))) c.traced_place-place.ensures
    ∙ ap (λ outcome. option_to_list (trace_after c.args.id (traced_place (get c.args.table.now.records c.args.id)) outcome (get c.instruction_at-answer.new.self.records c.args.id))) c.instruction_at-answer.ensures.event.answer
    ∙ ap (λ after. option_to_list (trace_after c.args.id (traced_place (get c.args.table.now.records c.args.id)) (step_outcome (effect_in (Step c.args.pool.now) c.args.id c.args.table.now.records)) (get after.records c.args.id))) c.instruction_at-answer.ensures.event.table
    ∙ traced c.args.pool.now c.args.id c.args.table.now.records)
