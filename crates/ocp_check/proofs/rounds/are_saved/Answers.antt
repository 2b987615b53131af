use Rattle.std.proofs.Common.{◌≡◌, subst, arith}
use Rattle.ocp_check.specs.Mirror.Ranks.{total_share}
use Rattle.ocp_check.proofs.rounds.are_saved.Goals as goal

pub returns : goal.returns
returns c = λ h old new s.
    let e : c.loop-k.k ≡ 8 = omega arith in
    subst (λ n. total_share c.args.counters.now c.args.counts.now new n ≡ total_share c.args.counters.now c.args.counts.now old n) e (c.loop-k.invariant old new s)
