use Rattle.std.proofs.Common.{rules, ◌≡◌, ◌<◌, ◌/◌, IfSome, subst}
use Rattle.ocp_check.specs.Mirror.Ranges.{IsIn}
use Rattle.ocp_check.proofs.Quotients.{divided, quotient_by}
use Rattle.ocp_check.proofs.range.quotient.Goals as goal

pub returns-in-Some : goal.returns-in-Some
returns-in-Some c = λ x y i e.
    let p = subst (λ o. IsIn o x) c.in_ok-a.was i in
    let f = subst (λ o. IfSome o (λ number. y ≡ number)) c.in-Some.is e in
    let z : 0 < c.in-Some.number = search (rules, c) in
    subst (IsIn c.between.result) (quotient_by x y c.in-Some.number f z)
    (c.between.ensures.holds (x / c.in-Some.number) (divided c.in_ok-a.a.low x c.in-Some.number z p.0) (divided x c.in_ok-a.a.high c.in-Some.number z p.1))
