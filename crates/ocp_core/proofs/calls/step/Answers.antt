use Rattle.std.proofs.Common.{ap, ◌∙◌}
use Rattle.ocp_table.specs.declared.answers.Slice.{Slice}
use Rattle.ocp_world.specs.After.{Stepped}
use Rattle.ocp_core.specs.Log.{Steps}
use Rattle.ocp_core.proofs.Storing.{step_answered, step_left}
use Rattle.ocp_core.proofs.calls.step.Goals as goal

pub returns-clause-answer : goal.returns-clause-answer
returns-clause-answer g c =
    ap (λ (s : Slice). Stepped s.last) c.instructions.ensures.slice
    ∙ step_answered (g.S.Store.is_full c.args.store.now (Steps c.args.by c.args.id 1)) (g.S.Store.world c.args.store.now) c.args.by c.args.id

pub returns-clause-store : goal.returns-clause-store
returns-clause-store g c = c.instructions.ensures.store ∙ step_left g.S.Store.world g.S.Store.is_full g.S.Store.with_entry c.args.store.now c.args.by c.args.id
