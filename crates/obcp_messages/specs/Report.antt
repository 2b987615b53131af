-- Reports of service 1 (request verification, ECSS-E-ST-70-41C, 6.1 and 8.1) and the status report
-- of service 18.
use Rattle.std.specs.Prelude.{◌≡◌, ◌≢◌, ◌≤◌, ◌<◌, ◌^◌, ℕ, List, ◌++◌, length, All}
use Rattle.std.specs.List.{flat_map}
use Rattle.byteorder.specs.Endian.{big_bytes}
use Rattle.obcp_messages.specs.Rows.{IsRising}
use Rattle.obcp_types.specs.declared.status.StatusRow.{StatusRow}
use Rattle.obcp_types.specs.declared.failure.StartFailure.{StartFailure}
use Rattle.obcp_types.specs.declared.failure.StartFailure.TheVariants as start
use Rattle.obcp_types.specs.Codes.{start_code, status_code}
use Rattle.obcp_messages.specs.declared.report.StartFault.{StartFault}
use Rattle.obcp_messages.specs.declared.report.StartFault.TheVariants.{BadCode, Plain}
use Rattle.obcp_messages.specs.declared.rows.TheConstants.{MAX_ROWS}
use Rattle.obcp_messages.specs.declared.report.Report.{Report}
use Rattle.obcp_messages.specs.declared.report.Report.TheVariants.{Accepted, NotAccepted, Started, NotStarted, Completed, NotCompleted}
use Rattle.obcp_messages.specs.declared.report.Report.TheVariants as R
use Rattle.obcp_messages.specs.declared.fault.ReportFault.{ReportFault}
use Rattle.obcp_messages.specs.declared.fault.ReportFault.TheVariants.{Kind, Layout}

-- the service of a report (ECSS-E-ST-70-41C, 8.1 and 8.18)
abbrev pub service_of : Report → ℕ
service_of (R.Status rows) = 18
service_of _ = 1

-- the message subtype of a report
abbrev pub kind_of : Report → ℕ
kind_of (Accepted request) = 1
kind_of (NotAccepted request code) = 2
kind_of (Started request) = 3
kind_of (NotStarted request fault) = 4
kind_of (Completed request) = 7
kind_of (NotCompleted request code) = 8
kind_of (R.Status rows) = 9

-- what a report states about a failed start: code 18 has data, and no other has
abbrev pub start_fault : StartFailure → StartFault
start_fault (start.BadCode fault slot) = BadCode fault slot
start_fault other = Plain (start_code other)

-- a failure code with its data: a load fault and a slot in code 18, and none in any other
abbrev pub fault_data : StartFault → List ℕ
fault_data (BadCode fault slot) = big_bytes 2 18 ++ big_bytes 1 fault ++ big_bytes 2 slot
fault_data (Plain code) = big_bytes 2 code

abbrev pub row_data : StatusRow → List ℕ
row_data row = big_bytes 2 row.id ++ big_bytes 1 (status_code row.status)

-- the service data of a report: its fields one after the other
abbrev pub report_data : Report → List ℕ
report_data (Accepted request) = request
report_data (NotAccepted request code) = request ++ big_bytes 2 code
report_data (Started request) = request
report_data (NotStarted request fault) = request ++ fault_data fault
report_data (Completed request) = request
report_data (NotCompleted request code) = request ++ big_bytes 2 code
report_data (R.Status rows) = big_bytes 1 (length rows) ++ flat_map row_data rows

abbrev pub IsStartFault : StartFault → Type 0
IsStartFault (BadCode fault slot) = (fault < 2 ^ 8) × (slot < 2 ^ 16)
IsStartFault (Plain code) = (code < 2 ^ 16) × (code ≢ 18)

-- each number of a report is in the range of its field
abbrev pub IsReport : Report → Type 0
IsReport (Accepted request) = length request ≡ 4
IsReport (NotAccepted request code) = (length request ≡ 4) × (code < 2 ^ 16)
IsReport (Started request) = length request ≡ 4
IsReport (NotStarted request fault) = (length request ≡ 4) × IsStartFault fault
IsReport (Completed request) = length request ≡ 4
IsReport (NotCompleted request code) = (length request ≡ 4) × (code < 2 ^ 16)
IsReport (R.Status rows) =
    (length rows ≤ MAX_ROWS) × IsRising rows × All (λ row. row.id < 2 ^ 16) rows

-- the octets are the service data of this report, in a telemetry packet of this service and subtype
pub record IsReportData (service subtype : ℕ) (octets : List ℕ) (report : Report) : Type 0 where
  pub of_service : service ≡ service_of report
  pub of_subtype : subtype ≡ kind_of report
  pub in_range : IsReport report
  pub fields : octets ≡ report_data report

-- what is first wrong with service data that are no report
abbrev pub HasReportFault : ℕ → ℕ → List ℕ → ReportFault → Type 0
HasReportFault service subtype octets Kind =
    (report : Report) → service ≡ service_of report → subtype ≢ kind_of report
HasReportFault service subtype octets Layout =
    ((report : Report) × (service ≡ service_of report) × (subtype ≡ kind_of report))
    × ((report : Report) → IsReportData service subtype octets report → ⊥)
