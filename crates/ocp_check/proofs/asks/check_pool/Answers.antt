use Rattle.std.proofs.Common.{rules}
use Rattle.ocp_check.proofs.asks.check_pool.Goals as goal

pub returns : goal.returns
returns g c = λ h s number r e four five.
    let a = c.check.ensures.within c.if-not-check.false s r in
    c.loop-slot.invariant s number (search (rules, c, a)) (c.check.ensures.fits c.if-not-check.false s r) e four five
