use Rattle.ocp_check.proofs.Falls.{falls_load}
use Rattle.ocp_check.proofs.rounds.load_lowers.Goals as goal

pub returns : goal.returns
returns c = λ h s most f r e i a k. falls_load c.args.all.now.ranks.now c.args.all.now.counters.now c.args.all.now.nodes.now most s c.args.dst f r (λ v j. c.write_lowers.ensures h s most v e i a tt j) k
