-- Rows of status reports, as they are read and written.
use Rattle.std.proofs.Common.{◌≡◌, ◌≤◌, ◌<◌, ◌^◌, ℕ, zero, suc, ◌+◌, ◌-◌, ◌*◌, List, [], ◌∷◌, ◌++◌, length, map, take, drop, get_or, true, ◌&&◌, cond, Option, Some, None, Ok, Err, refl, sym, ap, ◌∙◌, subst, arith}
use Rattle.std.specs.Prelude.{All, ◌==◌, nat_le}
use Rattle.std.specs.Int.{byte_at}
use Rattle.std.specs.Cmp.Derive.{both_true}
use Rattle.std.specs.List.{flat_map}
use Rattle.std.specs.List.Sorted.{IsStrictlyIncreasing}
use Rattle.std.specs.Option.{option_map}
use Rattle.std.proofs.lemmas.Bool.{cond-true, eq-eqb, le-leb, lt-ltb, ltb-true}
use Rattle.std.proofs.lemmas.Bool.Decides.{nat_tests}
use Rattle.std.proofs.lemmas.List.{append_assoc, drop-drop, length-drop}
use Rattle.std.proofs.lemmas.List.Elements.{All-nil, All-cons, All-head, All-tail}
use Rattle.std.proofs.Math.Seq.{take-add}
use Rattle.byteorder.specs.Endian.{big_bytes, big_number}
use Rattle.byteorder.specs.Numbers.{big_from-lt, big_number-reads_back}
use Rattle.obcp_messages.specs.Report.{row_data}
use Rattle.obcp_types.specs.Codes.{status_code}
use Rattle.obcp_messages.specs.Mirror.ReadingReports.{status_at, row_and, rows_in, follow, rise, status_report, with_rows}
use Rattle.obcp_messages.specs.Rows.{IsRising}
use Rattle.obcp_types.specs.declared.status.Status.{Status}
use Rattle.obcp_types.specs.declared.status.Status.TheVariants.{Inactive, Running, Held}
use Rattle.obcp_types.specs.declared.status.StatusRow.{StatusRow}
use Rattle.obcp_messages.specs.declared.report.Report.TheVariants as R
use Rattle.obcp_messages.specs.declared.fault.ReportFault.TheVariants.{Layout}
use Rattle.obcp_messages.proofs.Octets.{AreOctets, both_parts, octets_dropped, octets_of_two, one_octet, joined}

-- ---- the order of the identifiers

follow_rising : (id : ℕ) (rows : List StatusRow) → follow id rows ≡ true → IsStrictlyIncreasing (id ∷ map (λ row. row.id) rows)
follow_rising id [] e k h = absurd (omega arith)
follow_rising id (row ∷ rows) e zero h = ltb-true id row.id (both_parts _ _ e).0
follow_rising id (row ∷ rows) e (suc k) h =
    let s : suc k + 1 ≡ suc (k + 1) = omega arith in
    rw s (follow_rising row.id rows (both_parts _ _ e).1 k (omega arith))

rising_follow : (id : ℕ) (rows : List StatusRow) → IsStrictlyIncreasing (id ∷ map (λ row. row.id) rows) → follow id rows ≡ true
rising_follow id [] h = refl
rising_follow id (row ∷ rows) h =
    both_true (lt-ltb id row.id (h 0 (omega arith)))
    (rising_follow row.id rows (λ k g. let s : suc k + 1 ≡ suc (k + 1) = omega arith in rw s at (h (suc k) (omega arith))))

pub rise_rising : (rows : List StatusRow) → rise rows ≡ true → IsRising rows
rise_rising [] e = λ k h. absurd (omega arith)
rise_rising (row ∷ rows) e = follow_rising row.id rows e

pub rising_rise : (rows : List StatusRow) → IsRising rows → rise rows ≡ true
rising_rise [] h = refl
rising_rise (row ∷ rows) h = rising_follow row.id rows h

-- ---- a loop that reads rows

row_read : (rows : List StatusRow) (id : ℕ) (status : Status) (rest : Option (List StatusRow)) →
    option_map (λ (more : List StatusRow). (rows ++ record { id = id; status = status } ∷ []) ++ more) rest
    ≡ option_map (λ (more : List StatusRow). rows ++ more) (row_and id (Some status) rest)
row_read rows id status None = refl
row_read rows id status (Some more) = ap Some (append_assoc rows (record { id = id; status = status } ∷ []) more)

-- one more row has been read, whatever follows
pub rows_more : (rows : List StatusRow) (octets : List ℕ) (i left all id : ℕ) (status : Status) (whole : Option (List StatusRow)) → left ≡ suc all →
    id ≡ big_number 2 (drop (3 * i) octets) → status_at (get_or (drop (3 * i) octets) 2 0) ≡ Some status →
    option_map (λ (more : List StatusRow). rows ++ more) (rows_in left (drop (3 * i) octets)) ≡ whole →
    option_map (λ (more : List StatusRow). (rows ++ record { id = id; status = status } ∷ []) ++ more) (rows_in all (drop (3 * (i + 1)) octets)) ≡ whole
rows_more rows octets i left all id status whole e same is so_far =
    let next : drop 3 (drop (3 * i) octets) ≡ drop (3 * (i + 1)) octets = drop-drop 3 (3 * i) octets ∙ ap (λ n. drop n octets) (omega arith) in
    ap (λ o. option_map (λ (more : List StatusRow). (rows ++ record { id = id; status = status } ∷ []) ++ more) (rows_in all o)) (sym next)
    ∙ row_read rows id status (rows_in all (drop 3 (drop (3 * i) octets)))
    ∙ ap (λ n. option_map (λ (more : List StatusRow). rows ++ more) (row_and n (Some status) (rows_in all (drop 3 (drop (3 * i) octets))))) same
    ∙ ap (λ o. option_map (λ (more : List StatusRow). rows ++ more) (row_and (big_number 2 (drop (3 * i) octets)) o (rows_in all (drop 3 (drop (3 * i) octets))))) (sym is)
    ∙ ap (λ n. option_map (λ (more : List StatusRow). rows ++ more) (rows_in n (drop (3 * i) octets))) (sym e)
    ∙ so_far

-- a row whose status is none ends them
pub rows_end : (rows : List StatusRow) (octets : List ℕ) (i left all : ℕ) (whole : Option (List StatusRow)) → left ≡ suc all →
    status_at (get_or (drop (3 * i) octets) 2 0) ≡ None →
    option_map (λ (more : List StatusRow). rows ++ more) (rows_in left (drop (3 * i) octets)) ≡ whole → whole ≡ None
rows_end rows octets i left all whole e is so_far =
    sym so_far ∙ ap (λ n. option_map (λ (more : List StatusRow). rows ++ more) (rows_in n (drop (3 * i) octets))) e
    ∙ ap (λ o. option_map (λ (more : List StatusRow). rows ++ more) (row_and (big_number 2 (drop (3 * i) octets)) o (rows_in all (drop 3 (drop (3 * i) octets))))) is

pub rows_answer : (octets : List ℕ) (rows : List StatusRow) → 1 ≤ length octets → length octets ≡ 1 + 3 * get_or octets 0 0 → get_or octets 0 0 ≤ 16 →
    rows_in (get_or octets 0 0) (drop 1 octets) ≡ Some rows → with_rows octets ≡ cond (rise rows) (Ok (R.Status rows)) (Err Layout)
rows_answer octets rows some whole most is =
    let test : (nat_le 1 (length octets) && (length octets == 1 + 3 * get_or octets 0 0) && nat_le (get_or octets 0 0) 16) ≡ true =
    both_true (both_true (le-leb 1 (length octets) some) (eq-eqb (length octets) (1 + 3 * get_or octets 0 0) whole)) (le-leb (get_or octets 0 0) 16 most) in
    cond-true _ _ _ test ∙ ap status_report is

-- ---- rows and their octets

status_back : (code : ℕ) (status : Status) → status_at code ≡ Some status → code ≡ status_code status
status_back code Inactive e = grind (arith, nat_tests)
status_back code Running e = grind (arith, nat_tests)
status_back code Held e = grind (arith, nat_tests)

status_written : (status : Status) → status_at (byte_at 0 (status_code status)) ≡ Some status
status_written Inactive = refl
status_written Running = refl
status_written Held = refl

first_row : (id : ℕ) (status : Option Status) (rest : Option (List StatusRow)) (rows : List StatusRow) → row_and id status rest ≡ Some rows →
    (s : Status) × (more : List StatusRow) × (status ≡ Some s) × (rest ≡ Some more) × (rows ≡ record { id = id; status = s } ∷ more)
first_row id None rest rows e = absurd cc
first_row id (Some s) None rows e = absurd cc
first_row id (Some s) (Some more) rows e = (s, more, refl, refl, cc)

-- rows that are read are written as the octets that they were read from
pub record AreRows (n : ℕ) (octets : List ℕ) (rows : List StatusRow) : Type 0 where
  pub written : flat_map row_data rows ≡ take (3 * n) octets
  pub count : length rows ≡ n
  pub fit : All (λ (row : StatusRow). row.id < 2 ^ 16) rows

pub rows_back : (n : ℕ) (octets : List ℕ) (rows : List StatusRow) → 3 * n ≤ length octets → AreOctets octets → rows_in n octets ≡ Some rows → AreRows n octets rows
rows_back zero octets rows long h e = let none : rows ≡ [] = cc in
    rw none (record { written = refl; count = refl; fit = All-nil (λ (row : StatusRow). row.id < 2 ^ 16) })
rows_back (suc n) octets rows long h e =
    let first = first_row (big_number 2 octets) (status_at (get_or octets 2 0)) (rows_in n (drop 3 octets)) rows e in
    let status : Status = first.0 in
    let more : List StatusRow = first.1 in
    let len : length (drop 3 octets) ≡ length octets - 3 = length-drop 3 octets in
    let rest : AreRows n (drop 3 octets) more = rows_back n (drop 3 octets) more (omega (arith, len)) (octets_dropped 3 octets h) first.3 in
    let front : big_bytes 2 (big_number 2 octets) ≡ take 2 octets = octets_of_two octets (omega arith) h in
    let code : big_bytes 1 (status_code status) ≡ take 1 (drop 2 octets) = ap (big_bytes 1) (sym (status_back (get_or octets 2 0) status first.2)) ∙ one_octet octets 2 (omega arith) h in
    let row : big_bytes 2 (big_number 2 octets) ++ big_bytes 1 (status_code status) ≡ take 3 octets = joined front code ∙ sym (take-add 2 1 octets) in
    let split : take (3 + 3 * n) octets ≡ take 3 octets ++ take (3 * n) (drop 3 octets) = take-add 3 (3 * n) octets in
    let size : 3 * suc n ≡ 3 + 3 * n = omega arith in
    subst (λ (rs : List StatusRow). AreRows (suc n) octets rs) (sym first.4) (record {
      written = joined row rest.written ∙ sym split ∙ ap (λ m. take m octets) (sym size);
      count = ap suc rest.count;
      fit = All-cons (λ (r : StatusRow). r.id < 2 ^ 16) (record { id = big_number 2 octets; status = status }) more (big_from-lt 0 2 octets h) rest.fit;
    })

pub length-rows : (rows : List StatusRow) → length (flat_map row_data rows) ≡ 3 * length rows
length-rows [] = refl
length-rows (row ∷ rows) = let rest = length-rows rows in omega (arith, rest)

-- rows that are written are read back
pub rows_written : (rows : List StatusRow) → All (λ (row : StatusRow). row.id < 2 ^ 16) rows → rows_in (length rows) (flat_map row_data rows) ≡ Some rows
rows_written [] h = refl
rows_written (row ∷ rows) h =
    let P : StatusRow → Type 0 = λ r. r.id < 2 ^ 16 in
    let id : big_number 2 (row_data row ++ flat_map row_data rows) ≡ row.id =
    big_number-reads_back 2 row.id (big_bytes 1 (status_code row.status) ++ flat_map row_data rows) (All-head P row rows h) in
    let rest = rows_written rows (All-tail P row rows h) in
    ap (λ n. row_and n (status_at (byte_at 0 (status_code row.status))) (rows_in (length rows) (flat_map row_data rows))) id
    ∙ ap (λ s. row_and row.id s (rows_in (length rows) (flat_map row_data rows))) (status_written row.status)
    ∙ ap (λ r. row_and row.id (Some row.status) r) rest
