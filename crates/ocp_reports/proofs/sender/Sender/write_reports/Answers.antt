use Rattle.std.proofs.Common.{arith}
use Rattle.std.specs.Option.{option_to_list}
use Rattle.ocp_reports.specs.Reports.{dispatch_of_notice}
use Rattle.ocp_reports.proofs.Packets.{packets_more}
use Rattle.ocp_reports.proofs.Rooms.{within_68}
use Rattle.ocp_reports.proofs.sender.Sender.write_reports.Goals as goal

pub loop-notice-preserved : goal.loop-notice-preserved
loop-notice-preserved g c =
    let so_far = c.loop-notice.invariant in
    let within = within_68 c.loop-notice.out c.send.new.out _ c.send.ensures.within in
    record {
      packets = packets_more c.args.self.now.apid (dispatch_of_notice c.args.origin (option_to_list c.args.answer.now)) c.args.self.now.count c.as_slice-all.result.now c.loop-notice.notice-index _ c.loop-notice.out c.send.new.out c.loop-notice-test.true so_far.packets c.send.ensures.packets;
      few = omega (arith, so_far.few, within.few);
      short = omega (arith, so_far.short, within.short);
    }
