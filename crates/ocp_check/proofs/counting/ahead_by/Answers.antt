use Rattle.std.proofs.Common.{◌≡◌, ◌≤◌, ◌+◌, subst, arith}
use Rattle.ocp_check.specs.Mirror.Ranks.{total_share}
use Rattle.ocp_check.proofs.counting.ahead_by.Goals as goal

pub returns : goal.returns
returns c = λ old new i j m.
    let e : c.loop-k.k ≡ 8 = omega arith in
    let h : c.args.rank.now.base + total_share c.args.counters.now c.args.rank.now.counts new 8 + c.loop-k.less ≤ c.loop-k.more + total_share c.args.counters.now c.args.was.now old 8 =
    subst (λ n. c.args.rank.now.base + total_share c.args.counters.now c.args.rank.now.counts new n + c.loop-k.less ≤ c.loop-k.more + total_share c.args.counters.now c.args.was.now old n) e (c.loop-k.invariant old new i j m) in
    omega (arith, h, c.saturating_sub.ensures)
