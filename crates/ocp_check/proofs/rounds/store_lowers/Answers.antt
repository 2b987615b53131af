use Rattle.std.proofs.Common.{◌≡◌, ◌+◌, arith}
use Rattle.ocp_check.proofs.Counted.{moved_kept}
use Rattle.ocp_check.proofs.Falls.{falls_store}
use Rattle.ocp_check.proofs.rounds.store_lowers.Goals as goal

pub returns : goal.returns
returns c = λ h s most written e i a f.
    falls_store c.args.all.now.ranks.now c.args.all.now.counters.now c.args.all.now.nodes.now most s written
    (λ t p r k. let q : t.place ≡ c.from.result + 1 = omega (arith, p, e, c.from.ensures) in c.lowers.ensures h s t e i q k (moved_kept s.registers t.registers r)) a f
