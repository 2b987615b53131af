use Rattle.std.proofs.lemmas.Result.{IfOk-at_ok}
use Rattle.obcp_messages.specs.Report.{IsReportData}
use Rattle.obcp_messages.proofs.Octets.{octets_from_all}
use Rattle.obcp_messages.proofs.ReportOctets.{report_is_read}
use Rattle.obcp_messages.proofs.laws.read_reports_are_laid_out.Goals as goal

pub returns : goal.returns
returns c = λ service subtype octets report fit is.
    IfOk-at_ok (IsReportData service subtype octets) is (report_is_read service subtype octets (octets_from_all octets fit))
