use Rattle.std.proofs.Common.{rules, ◌≡◌, ◌+◌, bit_or, subst, arith}
use Rattle.std.specs.Int.Bits.{or_add_and}
use Rattle.std.proofs.lemmas.Nat.{le_or_l, le_or_r}
use Rattle.ocp_check.specs.Mirror.Ranges.{IsIn}
use Rattle.ocp_check.proofs.range.disjunction.Goals as goal

pub returns : goal.returns
returns c = λ x y i j.
    let p = subst (λ o. IsIn o x) c.in_ok-a.was i in
    let q = subst (λ o. IsIn o y) c.in_ok-b.was j in
    let most : c.in_ok-checked_add.field-0 ≡ c.in_ok-a.a.high + c.in_ok-b.b.high = search (rules, c) in
    c.between.ensures.holds (bit_or x y) (omega (arith, p.0, q.0, le_or_l x y, le_or_r x y, c.max.ensures)) (omega (arith, p.1, q.1, or_add_and x y, most))
