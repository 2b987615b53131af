-- Packets of reports, one after another, and how long their data are.
use Rattle.std.proofs.Common.{◌≡◌, ℕ, ◌+◌, ◌*◌, ◌≤◌, ◌<◌, List, [], ◌∷◌, ◌++◌, length, take, get_or, refl, sym, ap, ◌∙◌, arith, length-append, add-zero}
use Rattle.std.specs.Prelude.{◌%◌}
use Rattle.std.specs.List.{flat_map}
use Rattle.std.proofs.lemmas.List.{take_more, append-nil}
use Rattle.std.proofs.lemmas.Grind.{flat_map-append}
use Rattle.std.proofs.Math.Nat.{mod-add-mod}
use Rattle.byteorder.specs.Endian.{big_bytes}
use Rattle.obcp_types.specs.declared.status.StatusRow.{StatusRow}
use Rattle.obcp_messages.specs.declared.report.StartFault.{StartFault}
use Rattle.obcp_messages.specs.declared.report.StartFault.TheVariants.{BadCode, Plain}
use Rattle.obcp_messages.specs.declared.report.Report.{Report}
use Rattle.obcp_messages.specs.declared.report.Report.TheVariants.{Accepted, NotAccepted, Started, NotStarted, Completed, NotCompleted, Status}
use Rattle.obcp_messages.specs.Report.{report_data, fault_data, row_data, IsReport}
use Rattle.pus_fields.specs.Telemetry.{telemetry_octets}
use Rattle.ocp_reports.specs.Origin.{Dispatch}
use Rattle.ocp_reports.specs.Packets.{packets, telemetry_of}

module _ (apid : ℕ) where
  pub packets-append : (n : ℕ) (xs ys : List Dispatch) → packets apid n (xs ++ ys) ≡ packets apid n xs ++ packets apid (n + length xs) ys
  packets-append n [] ys = ap (λ k. packets apid k ys) (sym (add-zero n))
  packets-append n (x ∷ xs) ys =
      let same : n + 1 + length xs ≡ n + length (x ∷ xs) = omega arith in
      ap (λ rest. telemetry_octets (telemetry_of apid n x) ∷ rest) (packets-append (n + 1) xs ys ∙ ap (λ k. packets apid (n + 1) xs ++ packets apid k ys) same)

  pub length-packets : (n : ℕ) (xs : List Dispatch) → length (packets apid n xs) ≡ length xs
  length-packets n [] = refl
  length-packets n (x ∷ xs) = let rest : length (packets apid (n + 1) xs) ≡ length xs = length-packets (n + 1) xs in omega (arith, rest)

  -- only the count modulo 16,384 is sent
  pub packets-alike : (m n : ℕ) (xs : List Dispatch) → m % 16384 ≡ n % 16384 → packets apid m xs ≡ packets apid n xs
  packets-alike m n [] h = refl
  packets-alike m n (x ∷ xs) h = λ i. telemetry_octets (record (telemetry_of apid m x) { count = h i }) ∷ packets-alike (m + 1) (n + 1) xs (sym (mod-add-mod m 16384 1) ∙ ap (λ k. (k + 1) % 16384) h ∙ mod-add-mod n 16384 1) i

  -- the packets of one more piece of a list
  pub packets_more : {N : Type 0} (f : N → List Dispatch) (n : ℕ) (list : List N) (i : ℕ) (d : N) (old new : List (List ℕ)) → i < length list → old ≡ packets apid n (flat_map f (take i list)) → new ≡ old ++ packets apid (n + length old) (f (get_or list i d)) → new ≡ packets apid n (flat_map f (take (i + 1) list))
  packets_more f n list i d old new within so_far is =
      let before = flat_map f (take i list) in
      let more = f (get_or list i d) in
      is ∙ (λ k. so_far k ++ packets apid (n + length (so_far k)) more)
      ∙ ap (λ k. packets apid n before ++ packets apid (n + k) more) (length-packets n before)
      ∙ sym (packets-append n before more)
      ∙ ap (packets apid n) (sym (ap (flat_map f) (take_more list i d within) ∙ flat_map-append f (take i list) (get_or list i d ∷ []) ∙ ap (λ xs. before ++ xs) (append-nil more)))

-- counts are added modulo 16,384
pub counts : (count packets : ℕ) → (count + packets % 16384) % 16384 ≡ (count + packets) % 16384
counts count packets = omega arith

-- ---- service data are short

rows_length : (rows : List StatusRow) → length (flat_map row_data rows) ≡ 3 * length rows
rows_length [] = refl
rows_length (row ∷ rows) = omega (arith, length-append (row_data row) (flat_map row_data rows), rows_length rows)

fault_length : (fault : StartFault) → length (fault_data fault) ≤ 5
fault_length (BadCode number slot) = omega arith
fault_length (Plain code) = omega arith

pub short : (report : Report) → IsReport report → length (report_data report) ≤ 49
short (Accepted request) h = omega (arith, h)
short (NotAccepted request code) h = omega (arith, h.0, length-append request (big_bytes 2 code))
short (Started request) h = omega (arith, h)
short (NotStarted request fault) h = omega (arith, h.0, fault_length fault, length-append request (fault_data fault))
short (Completed request) h = omega (arith, h)
short (NotCompleted request code) h = omega (arith, h.0, length-append request (big_bytes 2 code))
short (Status rows) h = omega (arith, h.0, rows_length rows, length-append (big_bytes 1 (length rows)) (flat_map row_data rows))
