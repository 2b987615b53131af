use Rattle.std.proofs.Common.{subst, ◌∙◌, ap}
use Rattle.bpf_values.specs.Value.{passes}
use Rattle.ocp_check.specs.Mirror.Ranges.{IsIn}
use Rattle.ocp_check.proofs.Signs.{same_test}
use Rattle.ocp_check.proofs.range.refinement_of_number.Goals as goal

pub returns-then-has_no_sign : goal.returns-then-has_no_sign
returns-then-has_no_sign c = λ x y l i j h.
    c.refinement_unsigned-then-has_no_sign.ensures x y i j
    (ap (λ t. passes c.args.test.width t x y) c.without_signs-comparison.ensures ∙ same_test c.args.test.width c.args.test.comparison x y (c.has_no_sign-2.ensures c.if-has_no_sign.true x i) (c.has_no_sign.ensures c.if-not-has_no_sign.false y j) ∙ h)

pub returns-in-Some : goal.returns-in-Some
returns-in-Some c = λ x y l i j h.
    c.upward.ensures x y i (subst (λ o. IsIn o y) c.in-Some.is j) (c.is_upward.ensures c.if-is_upward.true x y l (c.has_no_sign.ensures c.if-not-has_no_sign.false y j) h)
