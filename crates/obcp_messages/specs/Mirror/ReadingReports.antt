-- A report as a function of its data, field by field, with the first fault. `IsReportData` is what
-- it means: `read_report` answers by both.
use Rattle.std.specs.Prelude.{ℕ, zero, suc, Bool, true, ◌+◌, ◌*◌, ◌==◌, ◌&&◌, nat_le, nat_lt, if◌then◌else◌, List, [], ◌∷◌, length, take, drop, slice_index, Option, Some, None, Result, Ok, Err}
use Rattle.byteorder.specs.Endian.{big_number}
use Rattle.obcp_types.specs.declared.status.StatusRow.{StatusRow}
use Rattle.obcp_types.specs.declared.status.Status.{Status}
use Rattle.obcp_types.specs.declared.status.Status.TheVariants.{Inactive, Running, Held}
use Rattle.obcp_messages.specs.declared.report.StartFault.TheVariants.{BadCode, Plain}
use Rattle.obcp_messages.specs.declared.rows.TheConstants.{MAX_ROWS}
use Rattle.obcp_messages.specs.declared.report.Report.{Report}
use Rattle.obcp_messages.specs.declared.report.Report.TheVariants.{Accepted, NotAccepted, Started, NotStarted, Completed, NotCompleted}
use Rattle.obcp_messages.specs.declared.report.Report.TheVariants as R
use Rattle.obcp_messages.specs.declared.fault.ReportFault.{ReportFault}
use Rattle.obcp_messages.specs.declared.fault.ReportFault.TheVariants.{Kind, Layout}

-- a request identifier alone
abbrev pub with_request : (List ℕ → Report) → List ℕ → Result Report ReportFault
with_request make octets = if length octets == 4 then Ok (make (take 4 octets)) else Err Layout

-- a request identifier and a failure code
abbrev pub with_code : (List ℕ → ℕ → Report) → List ℕ → Result Report ReportFault
with_code make octets =
    if length octets == 6
    then Ok (make (take 4 octets) (big_number 2 (drop 4 octets))) else Err Layout

-- a request identifier and a failure code, with the data of code 18
abbrev pub with_fault : List ℕ → Result Report ReportFault
with_fault octets =
    if big_number 2 (drop 4 octets) == 18
    then (if length octets == 9
    then Ok (NotStarted (take 4 octets)
    (BadCode (slice_index octets 6) (big_number 2 (drop 7 octets))))
    else Err Layout)
    else (if length octets == 6
    then Ok (NotStarted (take 4 octets) (Plain (big_number 2 (drop 4 octets))))
    else Err Layout)

abbrev pub status_at : ℕ → Option Status
status_at code =
    if code == 0 then Some Inactive
    else (if code == 1 then Some Running
    else (if code == 2 then Some Held
    else None))

-- a row before the others, if its status is one and they are rows
abbrev pub row_and : ℕ → Option Status → Option (List StatusRow) → Option (List StatusRow)
row_and id None rows = None
row_and id (Some status) None = None
row_and id (Some status) (Some rows) = Some (record { id = id; status = status } ∷ rows)

-- n rows, if each status is one
abbrev pub rows_in : ℕ → List ℕ → Option (List StatusRow)
rows_in zero octets = Some []
rows_in (suc n) octets =
    row_and (big_number 2 octets) (status_at (slice_index octets 2)) (rows_in n (drop 3 octets))

-- each identifier is above the one before it
abbrev pub follow : ℕ → List StatusRow → Bool
follow id [] = true
follow id (row ∷ rows) = nat_lt id row.id && follow row.id rows

abbrev pub rise : List StatusRow → Bool
rise [] = true
rise (row ∷ rows) = follow row.id rows

abbrev pub ordered_rows : List StatusRow → Result Report ReportFault
ordered_rows rows = if rise rows then Ok (R.Status rows) else Err Layout

abbrev pub status_report : Option (List StatusRow) → Result Report ReportFault
status_report None = Err Layout
status_report (Some rows) = ordered_rows rows

-- a number up to 16, and that number of rows
abbrev pub with_rows : List ℕ → Result Report ReportFault
with_rows octets =
    let count = slice_index octets 0 in
    if nat_le 1 (length octets) && (length octets == 1 + 3 * count) && nat_le count MAX_ROWS
    then status_report (rows_in count (drop 1 octets)) else Err Layout

abbrev pub verification_in : ℕ → List ℕ → Result Report ReportFault
verification_in subtype octets =
    if subtype == 1 then with_request Accepted octets
    else (if subtype == 2 then with_code NotAccepted octets
    else (if subtype == 3 then with_request Started octets
    else (if subtype == 4 then with_fault octets
    else (if subtype == 7 then with_request Completed octets
    else (if subtype == 8 then with_code NotCompleted octets
    else Err Kind)))))

-- the report of a packet's service, subtype and data
abbrev pub report_of : ℕ → ℕ → List ℕ → Result Report ReportFault
report_of service subtype octets =
    if service == 1 then verification_in subtype octets
    else (if service == 18 then (if subtype == 9 then with_rows octets else Err Kind)
    else Err Kind)
