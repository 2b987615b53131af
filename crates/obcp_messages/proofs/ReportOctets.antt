-- What `report_of` answers is what `IsReportData` states, both ways.
use Rattle.std.proofs.Common.{◌≡◌, ◌≤◌, ◌<◌, ◌^◌, ℕ, ◌+◌, ◌-◌, ◌*◌, List, [], ◌∷◌, ◌++◌, length, take, drop, get_or, false, ◌&&◌, Option, Some, None, Result, Ok, Err, refl, sym, ap, ◌∙◌, subst, arith}
use Rattle.std.specs.Prelude.{All, IfOk, ◌==◌, nat_le}
use Rattle.std.specs.Int.{byte_at}
use Rattle.std.specs.List.{flat_map}
use Rattle.std.proofs.Math.Seq.{take-add}
use Rattle.std.proofs.lemmas.Bool.{cond_both, cond-true, cond-false, eq-eqb, eqb-true, ne_eqb, leb-true}
use Rattle.std.proofs.lemmas.List.{drop-drop, get_or-drop, length-drop, length-take-le, take-append-drop, take_all}
use Rattle.byteorder.specs.Endian.{big_bytes, big_number}
use Rattle.byteorder.specs.Numbers.{big_from-lt, big_number-reads_back}
use Rattle.obcp_messages.specs.Report.{IsReport, IsReportData, IsStartFault, fault_data, kind_of, report_data, row_data, service_of}
use Rattle.obcp_messages.specs.Mirror.ReadingReports.{with_request, with_code, with_fault, rise, rows_in, status_report, with_rows, verification_in, report_of}
use Rattle.obcp_messages.specs.Rows.{IsRising}
use Rattle.obcp_types.specs.declared.status.StatusRow.{StatusRow}
use Rattle.obcp_messages.specs.declared.report.StartFault.{StartFault}
use Rattle.obcp_messages.specs.declared.report.StartFault.TheVariants.{BadCode, Plain}
use Rattle.obcp_messages.specs.declared.report.Report.{Report}
use Rattle.obcp_messages.specs.declared.report.Report.TheVariants.{Accepted, NotAccepted, Started, NotStarted, Completed, NotCompleted}
use Rattle.obcp_messages.specs.declared.report.Report.TheVariants as R
use Rattle.obcp_messages.specs.declared.fault.ReportFault.{ReportFault}
use Rattle.obcp_messages.specs.declared.fault.ReportFault.TheVariants.{Layout}
use Rattle.obcp_messages.proofs.Octets.{AreOctets, both_parts, joined, octets_dropped, octets_of_two, one_octet}
use Rattle.obcp_messages.proofs.RowOctets.{AreRows, length-rows, rise_rising, rising_rise, rows_answer, rows_back, rows_written}

-- ---- what is read is laid out so

abbrev pub Reads : (Report → Type 0) → Result Report ReportFault → Type 0
Reads P r = IfOk r P

request_read : (make : List ℕ → Report) (octets : List ℕ) (P : Report → Type 0) →
    (octets ≡ take 4 octets → length (take 4 octets) ≡ 4 → P (make (take 4 octets))) → Reads P (with_request make octets)
request_read make octets P holds =
    cond_both (length octets == 4) (Ok (make (take 4 octets))) (Err Layout) (Reads P)
    (λ e. let long : length octets ≡ 4 = eqb-true (length octets) 4 e in
    holds (sym (take_all 4 octets (omega arith))) (length-take-le 4 octets (omega arith)))
    (λ _. tt)

-- the code after a request identifier
code_octets : (octets : List ℕ) → length octets ≡ 6 → AreOctets octets → octets ≡ take 4 octets ++ big_bytes 2 (big_number 2 (drop 4 octets))
code_octets octets long h =
    let len : length (drop 4 octets) ≡ length octets - 4 = length-drop 4 octets in
    let code : big_bytes 2 (big_number 2 (drop 4 octets)) ≡ drop 4 octets =
    octets_of_two (drop 4 octets) (omega (arith, len)) (octets_dropped 4 octets h) ∙ take_all 2 (drop 4 octets) (omega (arith, len)) in
    sym (ap (λ x. take 4 octets ++ x) code ∙ take-append-drop 4 octets)

code_read : (make : List ℕ → ℕ → Report) (octets : List ℕ) (P : Report → Type 0) →
    (octets ≡ take 4 octets ++ big_bytes 2 (big_number 2 (drop 4 octets)) → length (take 4 octets) ≡ 4 → big_number 2 (drop 4 octets) < 2 ^ 16 → P (make (take 4 octets) (big_number 2 (drop 4 octets)))) →
    AreOctets octets → Reads P (with_code make octets)
code_read make octets P holds h =
    cond_both (length octets == 6) (Ok (make (take 4 octets) (big_number 2 (drop 4 octets)))) (Err Layout) (Reads P)
    (λ e. let long : length octets ≡ 6 = eqb-true (length octets) 6 e in
    holds (code_octets octets long h) (length-take-le 4 octets (omega arith)) (big_from-lt 0 2 (drop 4 octets) (octets_dropped 4 octets h)))
    (λ _. tt)

-- code 18 after a request identifier, with its data
bad_code_octets : (octets : List ℕ) → length octets ≡ 9 → big_number 2 (drop 4 octets) ≡ 18 → AreOctets octets →
    octets ≡ take 4 octets ++ fault_data (BadCode (get_or octets 6 0) (big_number 2 (drop 7 octets)))
bad_code_octets octets long is h =
    let rest : List ℕ = drop 4 octets in
    let fits : AreOctets rest = octets_dropped 4 octets h in
    let len : length rest ≡ length octets - 4 = length-drop 4 octets in
    let slot_len : length (drop 7 octets) ≡ length octets - 7 = length-drop 7 octets in
    let code : big_bytes 2 18 ≡ take 2 rest = ap (big_bytes 2) (sym is) ∙ octets_of_two rest (omega (arith, len)) fits in
    let fault : big_bytes 1 (get_or octets 6 0) ≡ take 1 (drop 2 rest) = ap (big_bytes 1) (sym (get_or-drop 4 octets 2 0)) ∙ one_octet rest 2 (omega (arith, len)) fits in
    let slot : big_bytes 2 (big_number 2 (drop 7 octets)) ≡ drop 3 rest =
    octets_of_two (drop 7 octets) (omega (arith, slot_len)) (octets_dropped 7 octets h) ∙ take_all 2 (drop 7 octets) (omega (arith, slot_len)) ∙ sym (drop-drop 3 4 octets) in
    let all : fault_data (BadCode (get_or octets 6 0) (big_number 2 (drop 7 octets))) ≡ rest =
    joined (joined code fault ∙ sym (take-add 2 1 rest)) slot ∙ take-append-drop 3 rest in
    sym (ap (λ x. take 4 octets ++ x) all ∙ take-append-drop 4 octets)

fault_read : (octets : List ℕ) (P : Report → Type 0) →
    ((request : List ℕ) (fault : StartFault) → octets ≡ request ++ fault_data fault → length request ≡ 4 → IsStartFault fault → P (NotStarted request fault)) →
    AreOctets octets → Reads P (with_fault octets)
fault_read octets P holds h =
    let code : ℕ = big_number 2 (drop 4 octets) in
    cond_both (code == 18) _ _ (Reads P)
    (λ is. cond_both (length octets == 9) _ _ (Reads P)
    (λ e. let long : length octets ≡ 9 = eqb-true (length octets) 9 e in
    holds (take 4 octets) (BadCode (get_or octets 6 0) (big_number 2 (drop 7 octets))) (bad_code_octets octets long (eqb-true code 18 is) h)
    (length-take-le 4 octets (omega arith)) (h 6, big_from-lt 0 2 (drop 7 octets) (octets_dropped 7 octets h)))
    (λ _. tt))
    (λ other. cond_both (length octets == 6) _ _ (Reads P)
    (λ e. let long : length octets ≡ 6 = eqb-true (length octets) 6 e in
    holds (take 4 octets) (Plain code) (code_octets octets long h)
    (length-take-le 4 octets (omega arith)) (big_from-lt 0 2 (drop 4 octets) (octets_dropped 4 octets h), λ q. let no = eq-eqb code 18 q in absurd cc))
    (λ _. tt))

rows_read : (octets : List ℕ) (P : Report → Type 0) →
    ((rows : List StatusRow) → octets ≡ big_bytes 1 (length rows) ++ flat_map row_data rows → length rows ≤ 16 → IsRising rows → All (λ (row : StatusRow). row.id < 2 ^ 16) rows → P (R.Status rows)) →
    AreOctets octets → Reads P (with_rows octets)
rows_read octets P holds h =
    let count : ℕ = get_or octets 0 0 in
    let status : (r : Option (List StatusRow)) → rows_in count (drop 1 octets) ≡ r → length octets ≡ 1 + 3 * count → 1 ≤ length octets → count ≤ 16 → Reads P (status_report r) =
    λ r is whole some most. elim r as (λ v. rows_in count (drop 1 octets) ≡ v → Reads P (status_report v)) [
      | None ↦ λ _. tt
      | Some rows ↦ λ e.
          let len : length (drop 1 octets) ≡ length octets - 1 = length-drop 1 octets in
          let back : AreRows count (drop 1 octets) rows = rows_back count (drop 1 octets) rows (omega (arith, len)) (octets_dropped 1 octets h) e in
          let front : big_bytes 1 (length rows) ≡ take 1 octets = ap (big_bytes 1) back.count ∙ one_octet octets 0 some h in
          let rest : flat_map row_data rows ≡ drop 1 octets = back.written ∙ take_all (3 * count) (drop 1 octets) (omega (arith, len)) in
          let same : octets ≡ big_bytes 1 (length rows) ++ flat_map row_data rows = sym (joined front rest ∙ take-append-drop 1 octets) in
          let size = back.count in
          cond_both (rise rows) (Ok (R.Status rows)) (Err Layout) (Reads P)
          (λ rises. holds rows same (omega (arith, size)) (rise_rising rows rises) back.fit) (λ _. tt)
    ] is in
    cond_both (nat_le 1 (length octets) && (length octets == 1 + 3 * count) && nat_le count 16) (status_report (rows_in count (drop 1 octets))) (Err Layout) (Reads P)
    (λ e. let most = both_parts (nat_le 1 (length octets) && (length octets == 1 + 3 * count)) (nat_le count 16) e in
    let whole = both_parts (nat_le 1 (length octets)) (length octets == 1 + 3 * count) most.0 in
    status (rows_in count (drop 1 octets)) refl (eqb-true (length octets) (1 + 3 * count) whole.1) (leb-true 1 (length octets) whole.0) (leb-true count 16 most.1))
    (λ _. tt)

verification_read : (subtype : ℕ) (octets : List ℕ) → AreOctets octets → IfOk (verification_in subtype octets) (IsReportData 1 subtype octets)
verification_read subtype octets h =
    let P : Report → Type 0 = λ report. IsReportData 1 subtype octets report in
    cond_both (subtype == 1) _ _ (Reads P)
    (λ e. request_read Accepted octets P (λ same size. record { of_service = refl; of_subtype = eqb-true subtype 1 e; in_range = size; fields = same }))
    (λ _. cond_both (subtype == 2) _ _ (Reads P)
    (λ e. code_read NotAccepted octets P (λ same size code. record { of_service = refl; of_subtype = eqb-true subtype 2 e; in_range = (size, code); fields = same }) h)
    (λ _. cond_both (subtype == 3) _ _ (Reads P)
    (λ e. request_read Started octets P (λ same size. record { of_service = refl; of_subtype = eqb-true subtype 3 e; in_range = size; fields = same }))
    (λ _. cond_both (subtype == 4) _ _ (Reads P)
    (λ e. fault_read octets P (λ request fault same size fits. record { of_service = refl; of_subtype = eqb-true subtype 4 e; in_range = (size, fits); fields = same }) h)
    (λ _. cond_both (subtype == 7) _ _ (Reads P)
    (λ e. request_read Completed octets P (λ same size. record { of_service = refl; of_subtype = eqb-true subtype 7 e; in_range = size; fields = same }))
    (λ _. cond_both (subtype == 8) _ _ (Reads P)
    (λ e. code_read NotCompleted octets P (λ same size code. record { of_service = refl; of_subtype = eqb-true subtype 8 e; in_range = (size, code); fields = same }) h)
    (λ _. tt))))))

pub report_is_read : (service subtype : ℕ) (octets : List ℕ) → AreOctets octets → IfOk (report_of service subtype octets) (IsReportData service subtype octets)
report_is_read service subtype octets h =
    let P : Report → Type 0 = λ report. IsReportData service subtype octets report in
    cond_both (service == 1) _ _ (Reads P)
    (λ e. subst (λ s. IfOk (verification_in subtype octets) (IsReportData s subtype octets)) (sym (eqb-true service 1 e)) (verification_read subtype octets h))
    (λ _. cond_both (service == 18) _ _ (Reads P)
    (λ e. cond_both (subtype == 9) _ _ (Reads P)
    (λ nine. rows_read octets P (λ rows same most rising fit. record { of_service = eqb-true service 18 e; of_subtype = eqb-true subtype 9 nine; in_range = (most, rising, fit); fields = same }) h)
    (λ _. tt))
    (λ _. tt))

-- ---- what is laid out so is read

-- a list of four numbers
four : (P : List ℕ → Type 0) → ((a b c d : ℕ) → P (a ∷ b ∷ c ∷ d ∷ [])) → (xs : List ℕ) → length xs ≡ 4 → P xs
four P h [] e = absurd (omega arith)
four P h (a ∷ []) e = absurd (omega arith)
four P h (a ∷ b ∷ []) e = absurd (omega arith)
four P h (a ∷ b ∷ c ∷ []) e = absurd (omega arith)
four P h (a ∷ b ∷ c ∷ d ∷ []) e = h a b c d
four P h (a ∷ b ∷ c ∷ d ∷ x ∷ xs) e = absurd (omega arith)

fault_written : (a b c d : ℕ) (fault : StartFault) → IsStartFault fault → with_fault (a ∷ b ∷ c ∷ d ∷ fault_data fault) ≡ Ok (NotStarted (a ∷ b ∷ c ∷ d ∷ []) fault)
fault_written a b c d (BadCode fault slot) h =
    let value : byte_at 0 fault ≡ fault = let low = h.0 in omega (arith, low) in
    ap (λ n. Ok (NotStarted (a ∷ b ∷ c ∷ d ∷ []) (BadCode n (big_number 2 (big_bytes 2 slot))))) value
    ∙ ap (λ n. Ok (NotStarted (a ∷ b ∷ c ∷ d ∷ []) (BadCode fault n))) (big_number-reads_back 2 slot [] h.1)
fault_written a b c d (Plain code) h =
    let value : big_number 2 (big_bytes 2 code) ≡ code = big_number-reads_back 2 code [] h.0 in
    let other : (big_number 2 (big_bytes 2 code) == 18) ≡ false = ap (λ n. n == 18) value ∙ ne_eqb code 18 h.1 in
    cond-false _ _ _ other ∙ ap (λ n. Ok (NotStarted (a ∷ b ∷ c ∷ d ∷ []) (Plain n))) value

status_written : (rows : List StatusRow) → length rows ≤ 16 → IsRising rows → All (λ (row : StatusRow). row.id < 2 ^ 16) rows →
    with_rows (big_bytes 1 (length rows) ++ flat_map row_data rows) ≡ Ok (R.Status rows)
status_written rows most rising fit =
    let octets : List ℕ = big_bytes 1 (length rows) ++ flat_map row_data rows in
    let count : get_or octets 0 0 ≡ length rows = omega arith in
    let size = length-rows rows in
    let back : rows_in (get_or octets 0 0) (drop 1 octets) ≡ Some rows = ap (λ n. rows_in n (drop 1 octets)) count ∙ rows_written rows fit in
    rows_answer octets rows (omega arith) (omega (arith, count, size)) (omega (arith, count)) back ∙ cond-true _ _ _ (rising_rise rows rising)

pub data_is_read : (report : Report) → IsReport report → report_of (service_of report) (kind_of report) (report_data report) ≡ Ok report
data_is_read (Accepted request) h = four (λ r. with_request Accepted r ≡ Ok (Accepted r)) (λ a b c d. refl) request h
data_is_read (NotAccepted request code) h =
    four (λ r. with_code NotAccepted (r ++ big_bytes 2 code) ≡ Ok (NotAccepted r code))
    (λ a b c d. ap (λ n. Ok (NotAccepted (a ∷ b ∷ c ∷ d ∷ []) n)) (big_number-reads_back 2 code [] h.1)) request h.0
data_is_read (Started request) h = four (λ r. with_request Started r ≡ Ok (Started r)) (λ a b c d. refl) request h
data_is_read (NotStarted request fault) h =
    four (λ r. with_fault (r ++ fault_data fault) ≡ Ok (NotStarted r fault)) (λ a b c d. fault_written a b c d fault h.1) request h.0
data_is_read (Completed request) h = four (λ r. with_request Completed r ≡ Ok (Completed r)) (λ a b c d. refl) request h
data_is_read (NotCompleted request code) h =
    four (λ r. with_code NotCompleted (r ++ big_bytes 2 code) ≡ Ok (NotCompleted r code))
    (λ a b c d. ap (λ n. Ok (NotCompleted (a ∷ b ∷ c ∷ d ∷ []) n)) (big_number-reads_back 2 code [] h.1)) request h.0
data_is_read (R.Status rows) h = status_written rows h.0 h.1 h.2

pub only_report : (service subtype : ℕ) (octets : List ℕ) (report : Report) → IsReportData service subtype octets report → report_of service subtype octets ≡ Ok report
only_report service subtype octets report p =
    ap (λ n. report_of n subtype octets) p.of_service ∙ ap (λ n. report_of (service_of report) n octets) p.of_subtype
    ∙ ap (report_of (service_of report) (kind_of report)) p.fields ∙ data_is_read report p.in_range
