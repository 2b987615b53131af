use Rattle.std.proofs.Common.{◌≡◌, Some, Option, sym, ap, subst, ◌∙◌}
use Rattle.bpf_types.specs.declared.line.Line.{Line}
use Rattle.ocp_loader.specs.LineAt.{line_of}
use Rattle.bpf_step.specs.Step.{step_of}
use Rattle.ocp_check.specs.Mirror.Fits.{FitsAfter}
use Rattle.ocp_check.specs.Mirror.Ranks.{Falls}
use Rattle.ocp_check.proofs.rounds.falls_at.Goals as goal

pub returns-in-Some-line_at : goal.returns-in-Some-line_at
returns-in-Some-line_at g c = λ h s e f a after.
    let p : line_of c.args.program.now s.place ≡ Some c.in-Some-line_at.line = ap (line_of c.args.program.now) e ∙ sym c.line_at.ensures.value ∙ c.in-Some-line_at.is in
    subst (λ (o : Option Line). Falls c.args.all.now.ranks.now c.args.all.now.counters.now c.args.most s (step_of o s)) (sym p)
    (c.falls.ensures h s e (c.in-Some.ensures.some s e f) a (subst (λ (o : Option Line). FitsAfter c.args.all.now.nodes.now s (step_of o s)) p after))

pub returns-in-None : goal.returns-in-None
returns-in-None g c = λ h s e f a after. absurd (c.in-None.ensures.none s e f)
