use Rattle.std.proofs.Common.{rules, ◌≡◌, ◌<◌, length}
use Rattle.ocp_check.proofs.Kept.{based}
use Rattle.ocp_check.proofs.covering.with_base.Goals as goal

pub returns : goal.returns
returns c = λ certificate s i.
    let n : length c.args.node.now.forms ≡ 11 = search (rules, c) in
    let d : c.from-at.result < 11 = search (rules, c) in
    based certificate c.args.node.now s c.from-at.result c.in-Some.base n d c.in-Some.ensures.registers c.in-Some.ensures.words i
