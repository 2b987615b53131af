use Rattle.std.proofs.Common.{◌+◌, ◌*◌, length, ap, arith}
use Rattle.ocp_saved.specs.Format.{frame_octets}
use Rattle.ocp_saved.proofs.Items.{items_written}
use Rattle.ocp_saved.proofs.machine.put_frames.Goals as goal

pub loop-index-preserved : goal.loop-index-preserved
loop-index-preserved c =
    let i = c.loop-index.index in
    let len = c.loop-index.auto.out in
    items_written frame_octets 42 c.args.frames.now c.loop-index.out c.put_frame.new.out _ i (42 * i) _ (42 * (i + 1)) c.loop-index-test.true (omega arith) (omega arith) (ap length c.put_frame.ensures) c.put_frame.ensures c.loop-index.invariant
