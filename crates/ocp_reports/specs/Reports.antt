-- The reports of a request (ECSS-E-ST-70-41C, 6.1; CCSDS 133.0-B, 4.1).
use Rattle.std.specs.Prelude.{ℕ, List, [], ◌∷◌, map}
use Rattle.std.specs.List.{flat_map}
use Rattle.obcp_messages.specs.declared.report.Report.{Report}
use Rattle.obcp_messages.specs.declared.report.Report.TheVariants as report
use Rattle.obcp_messages.specs.Report.{start_fault}
use Rattle.obcp_types.specs.Codes.{acceptance_code, completion_code}
use Rattle.verification.specs.declared.outcome.Outcome.{Outcome}
use Rattle.verification.specs.declared.notice.Notice.{Notice}
use Rattle.verification.specs.declared.notice.Notice.TheVariants as notice
use Rattle.verification.specs.Reports.{reports_of_outcome}
use Rattle.ocp_reports.specs.declared.origin.Origin.{Origin}
use Rattle.ocp_reports.specs.Origin.{Dispatch, dispatch_of}

-- the report of a notice about the request of this identifier; for the answer it is the answer
-- report, if there is one
abbrev pub report_of : List ℕ → List Report → Notice → List Report
report_of request answer notice.Accepted = report.Accepted request ∷ []
report_of request answer (notice.NotAccepted failure) =
    report.NotAccepted request (acceptance_code failure) ∷ []
report_of request answer notice.Started = report.Started request ∷ []
report_of request answer (notice.NotStarted failure) =
    report.NotStarted request (start_fault failure) ∷ []
report_of request answer notice.Answer = answer
report_of request answer notice.Completed = report.Completed request ∷ []
report_of request answer (notice.NotCompleted failure) =
    report.NotCompleted request (completion_code failure) ∷ []

abbrev pub dispatch_of_notice : Origin → List Report → Notice → List Dispatch
dispatch_of_notice origin answer notice =
    map (dispatch_of origin) (report_of origin.request answer notice)

-- the reports of an outcome, in their order
abbrev pub reports_of : Origin → Outcome → List Report → List Dispatch
reports_of origin outcome answer =
    flat_map (dispatch_of_notice origin answer) (reports_of_outcome origin.ack outcome)
