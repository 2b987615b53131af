use Rattle.std.proofs.Common.{rules, ◌≡◌, ◌<◌, length, None}
use Rattle.ocp_check.proofs.Kept.{put_next}
use Rattle.ocp_check.proofs.steps.after_write.Goals as goal

pub returns : goal.returns
returns c = λ certificate s v slots i k.
    let l : length c.args.node.now.row ≡ 11 = search (rules, c) in
    let n : length c.args.node.now.forms ≡ 11 = search (rules, c) in
    let d : c.args.dst < 11 = search (rules, c) in
    put_next certificate c.args.node.now c.with_register.result s c.args.dst v slots c.args.known None c.with_register.ensures l n d i k tt
