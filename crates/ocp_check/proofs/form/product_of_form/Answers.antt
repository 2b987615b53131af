use Rattle.ocp_check.proofs.Forms.{product_law}
use Rattle.ocp_check.proofs.form.product_of_form.Goals as goal

pub returns : goal.returns
returns c = λ bases x e. product_law x c.args.number c.args.a.times (bases c.args.a.base) c.args.a.plus e
