use Rattle.std.proofs.Common.{◌≡◌, true, false, cond, sym, ap, ◌∙◌}
use Rattle.std.specs.FinMap.{get}
use Rattle.ocp_world.specs.Slice.{is_on, is_running}
use Rattle.ocp_world.proofs.state.State.goes_on.Goals as goal

pub returns-then-is_on-clause-goes : goal.returns-then-is_on-clause-goes
returns-then-is_on-clause-goes g c w stands =
    let on : is_on c.args.outcome ≡ true = sym c.is_on.ensures ∙ c.if-is_on.true in
    let runs : c.is_ok.result ≡ is_running (get w.records c.args.id) =
    c.is_ok.ensures.value ∙ c.running.ensures.runs ∙ ap (λ m. is_running (get m c.args.id)) stands.records in
    runs ∙ sym (ap (λ b. cond b (is_running (get w.records c.args.id)) false) on)
