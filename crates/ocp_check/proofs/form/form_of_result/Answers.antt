use Rattle.std.proofs.Common.{Option, subst, sym}
use Rattle.bpf_types.specs.declared.line.Operation.{Operation}
use Rattle.bpf_values.specs.Value.{arithmetic_result}
use Rattle.ocp_check.specs.declared.form.Form.{Form}
use Rattle.ocp_check.specs.declared.range.Range.{Range}
use Rattle.ocp_check.specs.Mirror.Forms.{IsForm}
use Rattle.ocp_check.specs.Mirror.Ranges.{IsIn}
use Rattle.ocp_check.proofs.form.form_of_result.Goals as goal

pub returns-in_ok-second-in_default-Mov : goal.returns-in_ok-second-in_default-Mov
returns-in_ok-second-in_default-Mov c = λ bases x y i j f g.
    subst (λ (o : Operation). IsForm c.form_of_move.result bases (arithmetic_result c.args.width o x y)) (sym c.in_default-Mov.is-1)
    (c.form_of_move.ensures bases x y (subst (λ (o : Option Form). IsForm o bases y) c.in_ok-b-in_default-Mov.was g) (subst (λ (o : Option Range). IsIn o y) c.in_ok-second-in_default-Mov.was j))
