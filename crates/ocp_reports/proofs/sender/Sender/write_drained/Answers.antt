use Rattle.std.proofs.Common.{arith}
use Rattle.ocp_reports.specs.Due.{due_dispatches}
use Rattle.ocp_reports.proofs.Packets.{packets_more}
use Rattle.ocp_reports.proofs.sender.Sender.write_drained.Goals as goal

pub loop-one-preserved : goal.loop-one-preserved
loop-one-preserved g c =
    let so_far = c.loop-one.invariant in
    let within = c.send_due.ensures.within in
    record {
      packets = packets_more c.args.self.now.apid (due_dispatches c.args.time) c.args.self.now.count c.args.due.now c.loop-one.one-index _ c.loop-one.out c.send_due.new.out c.loop-one-test.true so_far.packets c.send_due.ensures.packets;
      few = omega (arith, so_far.few, within.few);
      short = omega (arith, so_far.short, within.short);
    }
