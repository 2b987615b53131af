-- What `report_of` refuses is what `HasReportFault` states.
use Rattle.std.proofs.Common.{◌≡◌, ℕ, List, [], length, drop, get_or, Bool, true, false, ◌&&◌, ◌+◌, ◌*◌, cond, Option, Some, None, Result, Ok, Err, refl, sym, ap, ◌∙◌, ◌⊎◌, inl, inr, ⊎_elim}
use Rattle.std.specs.Prelude.{IfErr, ◌==◌, nat_le}
use Rattle.std.proofs.lemmas.Bool.{cond_both, eqb-true}
use Rattle.obcp_messages.specs.Report.{HasReportFault, kind_of, service_of}
use Rattle.obcp_messages.specs.Mirror.ReadingReports.{rise, rows_in, status_report, report_of}
use Rattle.obcp_types.specs.declared.status.StatusRow.{StatusRow}
use Rattle.obcp_messages.specs.declared.report.StartFault.TheVariants.{BadCode}
use Rattle.obcp_messages.specs.declared.report.Report.{Report}
use Rattle.obcp_messages.specs.declared.report.Report.TheVariants.{Accepted, NotAccepted, Started, NotStarted, Completed, NotCompleted}
use Rattle.obcp_messages.specs.declared.report.Report.TheVariants as R
use Rattle.obcp_messages.specs.declared.fault.ReportFault.{ReportFault}
use Rattle.obcp_messages.specs.declared.fault.ReportFault.TheVariants.{Kind, Layout}
use Rattle.obcp_messages.proofs.ReportOctets.{only_report}

-- an Ok, or the fault Layout
abbrev IsLayoutAtMost : Result Report ReportFault → Type 0
IsLayoutAtMost r = (fault : ReportFault) → r ≡ Err fault → fault ≡ Layout

by_test : (test : Bool) (report : Report) → IsLayoutAtMost (cond test (Ok report) (Err Layout))
by_test true report fault e = absurd cc
by_test false report fault e = cc

by_tests : (test first second : Bool) (report other : Report) → IsLayoutAtMost (cond test (cond first (Ok report) (Err Layout)) (cond second (Ok other) (Err Layout)))
by_tests true first second report other = by_test first report
by_tests false first second report other = by_test second other

by_rows : (test : Bool) (rows : Option (List StatusRow)) → IsLayoutAtMost (cond test (status_report rows) (Err Layout))
by_rows true None fault e = cc
by_rows true (Some rows) fault e = by_test (rise rows) (R.Status rows) fault e
by_rows false rows fault e = cc

-- the fault of data of a report's service and subtype is Layout
of_report : (report : Report) (octets : List ℕ) → IsLayoutAtMost (report_of (service_of report) (kind_of report) octets)
of_report (Accepted request) octets = by_test _ _
of_report (NotAccepted request code) octets = by_test _ _
of_report (Started request) octets = by_test _ _
of_report (NotStarted request fault) octets = by_tests _ _ _ _ _
of_report (Completed request) octets = by_test _ _
of_report (NotCompleted request code) octets = by_test _ _
of_report (R.Status rows) octets =
    let count : ℕ = get_or octets 0 0 in
    by_rows (nat_le 1 (length octets) && (length octets == 1 + 3 * count) && nat_le count 16) (rows_in count (drop 1 octets))

-- service and subtype are a report's
abbrev Known : ℕ → ℕ → Type 0
Known service subtype = (report : Report) × (service ≡ service_of report) × (subtype ≡ kind_of report)

-- they are a report's, or the fault is Kind
known : (service subtype : ℕ) (octets : List ℕ) → Known service subtype ⊎ (report_of service subtype octets ≡ Err Kind)
known service subtype octets =
    let P : Result Report ReportFault → Type 0 = λ r. Known service subtype ⊎ (r ≡ Err Kind) in
    cond_both (service == 1) _ _ P
    (λ one. let is = eqb-true service 1 one in
    cond_both (subtype == 1) _ _ P (λ e. inl (Accepted [], is, eqb-true subtype 1 e))
    (λ _. cond_both (subtype == 2) _ _ P (λ e. inl (NotAccepted [] 0, is, eqb-true subtype 2 e))
    (λ _. cond_both (subtype == 3) _ _ P (λ e. inl (Started [], is, eqb-true subtype 3 e))
    (λ _. cond_both (subtype == 4) _ _ P (λ e. inl (NotStarted [] (BadCode 0 0), is, eqb-true subtype 4 e))
    (λ _. cond_both (subtype == 7) _ _ P (λ e. inl (Completed [], is, eqb-true subtype 7 e))
    (λ _. cond_both (subtype == 8) _ _ P (λ e. inl (NotCompleted [] 0, is, eqb-true subtype 8 e))
    (λ _. inr refl)))))))
    (λ _. cond_both (service == 18) _ _ P
    (λ eighteen. cond_both (subtype == 9) _ _ P (λ e. inl (R.Status [], eqb-true service 18 eighteen, eqb-true subtype 9 e)) (λ _. inr refl))
    (λ _. inr refl))

-- a fault of data whose service and subtype are a report's is Layout
known_fault : (service subtype : ℕ) (octets : List ℕ) (fault : ReportFault) (report : Report) → service ≡ service_of report → subtype ≡ kind_of report →
    report_of service subtype octets ≡ Err fault → fault ≡ Layout
known_fault service subtype octets fault report s t e =
    of_report report octets fault (sym (ap (λ n. report_of n subtype octets) s ∙ ap (λ n. report_of (service_of report) n octets) t) ∙ e)

fault_is : (service subtype : ℕ) (octets : List ℕ) (fault : ReportFault) → report_of service subtype octets ≡ Err fault → HasReportFault service subtype octets fault
fault_is service subtype octets Kind e = λ report s t. let q = known_fault service subtype octets Kind report s t e in absurd cc
fault_is service subtype octets Layout e = (
  ⊎_elim (λ k. k) (λ unknown. absurd cc) (known service subtype octets),
  λ report p. let q = only_report service subtype octets report p in absurd cc,
)

by_fault : (r : Result Report ReportFault) (P : ReportFault → Type 0) → ((fault : ReportFault) → r ≡ Err fault → P fault) → IfErr r P
by_fault (Ok report) P h = tt
by_fault (Err fault) P h = h fault refl

pub report_fault : (service subtype : ℕ) (octets : List ℕ) → IfErr (report_of service subtype octets) (HasReportFault service subtype octets)
report_fault service subtype octets = by_fault (report_of service subtype octets) (HasReportFault service subtype octets) (fault_is service subtype octets)
