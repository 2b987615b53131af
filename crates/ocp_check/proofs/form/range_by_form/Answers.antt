use Rattle.std.proofs.Common.{rules, ◌≡◌, ◌+◌, ◌*◌, ◌%◌, ◌^◌, sym, subst}
use Rattle.ocp_check.specs.Mirror.Ranges.{IsIn}
use Rattle.ocp_check.proofs.Forms.{by_other}
use Rattle.ocp_check.proofs.form.range_by_form.Goals as goal

pub returns : goal.returns
returns c = λ bases v x e f i.
    let base : c.args.other.base ≡ c.args.form.base = search (rules, c) in
    let one : c.args.other.times ≡ 1 = search (rules, c) in
    let g : x % 2 ^ 64 ≡ (1 * bases c.args.form.base + c.args.other.plus) % 2 ^ 64 =
    subst (λ t. x % 2 ^ 64 ≡ (t * bases c.args.form.base + c.args.other.plus) % 2 ^ 64) one (subst (λ b. x % 2 ^ 64 ≡ (c.args.other.times * bases b + c.args.other.plus) % 2 ^ 64) base f) in
    subst (IsIn c.sum.result) (sym (by_other v x c.args.form.times (bases c.args.form.base) c.args.form.plus c.args.other.plus e g))
    (c.sum.ensures _ _ (c.product.ensures x c.args.form.times i c.only.ensures.holds) c.only-2.ensures.holds)
