use Rattle.std.proofs.Common.{◌≡◌, Some, Option, arith, sym, ap, subst, ◌∙◌}
use Rattle.bpf_types.specs.declared.line.Line.{Line}
use Rattle.ocp_loader.specs.LineAt.{line_of}
use Rattle.bpf_step.specs.declared.answer.Need.TheVariants as need
use Rattle.bpf_step.specs.Machine.{Needs, read}
use Rattle.bpf_step.specs.Step.{step_of}
use Rattle.ocp_check.proofs.Asked.{calls_only}
use Rattle.ocp_check.proofs.asks.slot_asks_well.Goals as goal

pub returns-in-Some-line_at : goal.returns-in-Some-line_at
returns-in-Some-line_at g c = λ h s number e f o four five.
    let p : line_of c.args.program.now s.place ≡ Some c.in-Some-line_at.line = ap (line_of c.args.program.now) e ∙ sym c.line_at.ensures.value ∙ c.in-Some-line_at.is in
    c.line_asks_well.ensures h number (read s 1)
    (calls_only c.in-Some-line_at.line s number (subst (λ (l : Option Line). step_of l s ≡ Needs (need.Call number)) p o))
    ((c.in-Some.ensures.some s e f).registers.each 1 (omega arith)) four five

pub returns-in-None : goal.returns-in-None
returns-in-None g c = λ h s number e f o four five. absurd (c.in-None.ensures.none s e f)
