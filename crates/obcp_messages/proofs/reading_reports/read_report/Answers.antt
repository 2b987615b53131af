use Rattle.std.proofs.Common.{Result, sym, ◌∙◌, subst, rules}
use Rattle.std.specs.Prelude.{IfOk, IfErr}
use Rattle.obcp_messages.specs.Report.{IsReportData, HasReportFault}
use Rattle.obcp_messages.specs.declared.report.Report.{Report}
use Rattle.obcp_messages.specs.declared.fault.ReportFault.{ReportFault}
use Rattle.obcp_messages.proofs.Octets.{AreOctets}
use Rattle.obcp_messages.proofs.ReportOctets.{report_is_read, only_report}
use Rattle.obcp_messages.proofs.ReportFaults.{report_fault}
use Rattle.obcp_messages.proofs.reading_reports.read_report.Goals as goal

pub returns-clause-found : goal.returns-clause-found
returns-clause-found c =
    let fits : AreOctets c.args.octets.now = search rules in
    subst (λ (r : Result Report ReportFault). IfOk r (IsReportData c.args.service c.args.subtype c.args.octets.now)) (sym c.report_in.ensures)
    (report_is_read c.args.service c.args.subtype c.args.octets.now fits)

pub returns-clause-only : goal.returns-clause-only
returns-clause-only c = λ report p. c.report_in.ensures ∙ only_report c.args.service c.args.subtype c.args.octets.now report p

pub returns-clause-fault : goal.returns-clause-fault
returns-clause-fault c =
    subst (λ (r : Result Report ReportFault). IfErr r (HasReportFault c.args.service c.args.subtype c.args.octets.now)) (sym c.report_in.ensures)
    (report_fault c.args.service c.args.subtype c.args.octets.now)
