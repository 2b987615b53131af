use Rattle.std.proofs.Common.{◌≡◌, ◌++◌, sym, ap, ◌∙◌, arith, rules}
use Rattle.std.proofs.lemmas.Grind.{common_steps}
use Rattle.ocp_table.specs.declared.control.Control.{Control}
use Rattle.ocp_table.specs.Effects.{Changed, Stepped, dues_by_outcome, pool_by, pool_by_outcome, step_outcome}
use Rattle.ocp_table.specs.RequestTable.{Step}
use Rattle.ocp_table.specs.Shown.{effect_of_record, dues_of_effect}
use Rattle.ocp_table.proofs.record.Record.event.Given as given
use Rattle.ocp_table.proofs.record.Record.event.Goals as goal

-- the event has this outcome
effect_is : (g : given.Over) (c : goal.After-of-outcome g) → effect_of_record (Step c.args.pool.now) c.args.self.now ≡ Changed c.args.self.now.id (Stepped c.if-breaks_at.outcome)
effect_is g c = search rules

control_is : (g : given.Over) (c : goal.After-of-outcome g) → c.match-outcome.self.control ≡ c.args.self.now.control
control_is g c = search rules

pool_is : (g : given.Over) (c : goal.After-of-outcome g) → c.if-breaks_at.pool ≡ pool_by_outcome c.if-breaks_at.outcome c.args.pool.now
pool_is g c = search rules

pub returns-clause-answer : goal.returns-clause-answer
returns-clause-answer g c = c.of-outcome.ensures.outcome ∙ ap step_outcome (sym (effect_is g c))

pub returns-clause-outbox : goal.returns-clause-outbox
returns-clause-outbox g c =
    let old = c.args.outbox.now.items in
    c.file.ensures
    ∙ ap (λ (control : Control). old ++ dues_by_outcome c.if-breaks_at.outcome control.pending) (control_is g c)
    ∙ ap (λ effect. old ++ dues_of_effect effect c.args.self.now.control.pending) (sym (effect_is g c))

pub returns-clause-pool : goal.returns-clause-pool
returns-clause-pool g c = pool_is g c ∙ ap (λ effect. pool_by effect c.args.pool.now) (sym (effect_is g c))

pub returns-clause-place : goal.returns-clause-place
returns-clause-place g c = grind (arith, common_steps)
