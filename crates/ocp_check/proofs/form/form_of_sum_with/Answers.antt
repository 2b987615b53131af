use Rattle.std.proofs.Common.{◌≡◌, ℕ, Option, subst, arith}
use Rattle.std.specs.Prelude.{IfSome}
use Rattle.ocp_check.specs.declared.form.Form.{Form}
use Rattle.ocp_check.specs.Mirror.Forms.{IsForm}
use Rattle.ocp_check.proofs.form.form_of_sum_with.Goals as goal

pub returns-in-Some-Some : goal.returns-in-Some-Some
returns-in-Some-Some c = λ bases x y h g.
    let e : x ≡ c.in-Some-Some.number = subst (λ (o : Option ℕ). IfSome o (λ number. x ≡ number)) c.in-Some-Some.is-0 h in
    let f = c.form_of_sum.ensures bases y (subst (λ (o : Option Form). IsForm o bases y) c.in-Some-Some.is-1 g) in
    omega (arith, e, f)
