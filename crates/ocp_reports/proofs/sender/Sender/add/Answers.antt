use Rattle.std.proofs.Common.{◌≡◌, length, ap, ◌∙◌}
use Rattle.obcp_messages.specs.Report.{report_data}
use Rattle.ocp_reports.proofs.Packets.{short}
use Rattle.ocp_reports.proofs.Pieces.{grown}
use Rattle.ocp_reports.proofs.sender.Sender.add.Goals as goal

pub returns-clause-within : goal.returns-clause-within
returns-clause-within g c =
    let same : length c.as_slice.result.now ≡ length (report_data c.args.report.now) = ap length (c.as_slice.ensures.value ∙ c.report_fields-data.ensures.octets) in
    grown c.args.out.now c.push.new.self _ (length (report_data c.args.report.now)) c.push.ensures same

pub returns-clause-short : goal.returns-clause-short
returns-clause-short g c = short c.args.report.now c.report_fields-data.ensures.in_range
