use Rattle.std.proofs.Common.{◌%◌, ◌^◌, refl, sym, subst}
use Rattle.std.proofs.Math.Pow.{pow_pos}
use Rattle.ocp_check.specs.Mirror.Ranges.{IsIn}
use Rattle.ocp_check.proofs.Counted.{if_number}
use Rattle.ocp_check.proofs.Quotients.{quotient_by}
use Rattle.ocp_check.proofs.range.shift_right.Goals as goal

pub returns : goal.returns
returns c = λ x y i j.
    subst (IsIn c.quotient.result) (sym (quotient_by x (2 ^ (y % c.args.bits)) (2 ^ (y % c.args.bits)) refl (pow_pos (y % c.args.bits))))
    (c.quotient.ensures x (2 ^ (y % c.args.bits)) i (if_number c.power_of.result _ _ (λ n h. h y j) c.power_of.ensures))
