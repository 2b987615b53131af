use Rattle.std.proofs.Common.{◌+◌, ◌*◌, arith}
use Rattle.ocp_saved.specs.Format.{due_octets}
use Rattle.ocp_saved.proofs.Items.{items_written}
use Rattle.ocp_saved.proofs.completions.put_dues.Goals as goal

pub loop-index-preserved : goal.loop-index-preserved
loop-index-preserved c =
    let i = c.loop-index.index in
    let len = c.loop-index.auto.out in
    items_written due_octets 16 c.args.dues.now c.loop-index.out c.put_due.new.out _ i (16 * i) _ (16 * (i + 1)) c.loop-index-test.true (omega arith) (omega arith) (omega (arith, c.put_due.auto.out)) c.put_due.ensures c.loop-index.invariant
