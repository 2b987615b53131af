use Rattle.std.proofs.Common.{rules, arith}
use Rattle.ocp_check.proofs.Falls.{FallsFrom, rounds, within}
use Rattle.ocp_check.proofs.rounds.check_rounds.Goals as goal

pub returns : goal.returns
returns g c = λ h s t n r run.
    let falls : FallsFrom c.args.program.now c.args.ranks.now c.args.counters.now c.args.most = λ u q a.
    c.loop-slot.invariant u (let b = c.check.ensures.within c.if-not-check.false u q in search (rules, c, b)) (c.check.ensures.fits c.if-not-check.false u q) a (c.check.ensures.after c.if-not-check.false u q) in
    let low = within c.args.program.now c.args.ranks.now c.args.counters.now c.args.most
    (λ u e z q. c.is_under.ensures c.if-not-is_under.false u e (c.check.ensures.fits c.if-not-check.false u q)) falls in
    let i = rounds c.args.program.now c.args.ranks.now c.args.counters.now c.args.most n s t falls low r run in
    omega (arith, (low s r).0, i.1)
