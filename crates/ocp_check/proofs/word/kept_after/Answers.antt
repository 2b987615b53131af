use Rattle.std.proofs.Common.{◌≡◌, Option, inl, inr, subst, ◌∙◌, arith}
use Rattle.ocp_check.specs.declared.range.Range.{Range}
use Rattle.ocp_check.specs.Mirror.Ranges.{IsIn}
use Rattle.ocp_check.specs.Mirror.Words.{greater}
use Rattle.ocp_check.proofs.Words.{ends_before, first_le, second_le}
use Rattle.ocp_check.proofs.word.kept_after.Goals as goal

pub returns-then-at-ge-STACK_END : goal.returns-then-at-ge-STACK_END
returns-then-at-ge-STACK_END c = λ first old new p v s i there m q h e.
    let j = subst (λ (o : Option Range). IsIn o p) c.in-Some.is i in
    c.loads_give_what_was_stored.ensures.apart old new p c.args.octets v q 8 (ends_before p c.args.octets there) (omega (arith, e)) (inr (omega (arith, e, j.0, c.if-at-ge-STACK_END.true))) m ∙ s q h e

pub returns-else-at-ge-STACK_END : goal.returns-else-at-ge-STACK_END
returns-else-at-ge-STACK_END c = λ first old new p v s i there m q h e.
    let j = subst (λ (o : Option Range). IsIn o p) c.in-Some.is i in
    let end = c.end_after.ensures p j there in
    let a = first_le c.args.kept c.end_after.result in
    let b = second_le c.args.kept c.end_after.result in
    let is : c.later.result ≡ greater c.args.kept c.end_after.result = c.later.ensures in
    c.loads_give_what_was_stored.ensures.apart old new p c.args.octets v q 8 (ends_before p c.args.octets there) (omega (arith, e)) (inl (omega (arith, end, b, is, h))) m ∙ s q (omega (arith, a, is, h)) e
