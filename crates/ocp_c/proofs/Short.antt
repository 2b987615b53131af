-- How long reports are, and how many a request and a drain have.
use Rattle.std.proofs.Common.{◌≡◌, ◌≤◌, ℕ, ◌+◌, ◌*◌, Bool, true, false, cond, List, [], ◌∷◌, ◌++◌, length, take, Option, Some, None, refl, sym, subst, arith, length-append}
use Rattle.std.specs.Prelude.{Result, Ok, Err, All, not, ◌==◌}
use Rattle.std.specs.List.{flat_map, sum_by}
use Rattle.std.specs.Option.{option_map_or}
use Rattle.std.specs.FinMap.{len}
use Rattle.std.proofs.lemmas.List.{length-take}
use Rattle.std.proofs.lemmas.List.Sums.{sum_by-cons}
use Rattle.std.proofs.lemmas.List.Elements.{All-nil, All-cons}
use Rattle.byteorder.specs.Endian.{big_bytes}
use Rattle.space_packet.specs.declared.primary.Primary.{Primary}
use Rattle.space_packet.specs.declared.fault.PacketFault.{PacketFault}
use Rattle.space_packet.specs.Packet.{packet_in}
use Rattle.pus_fields.specs.declared.fault.TcFault.{TcFault}
use Rattle.pus_fields.specs.declared.fault.TcFault.TheVariants.{Discarded, Rejected}
use Rattle.pus_fields.specs.declared.fault.Discard.TheVariants.{NotTelecommand, OtherApid}
use Rattle.pus_fields.specs.declared.fault.Rejection.{Rejection}
use Rattle.pus_fields.specs.Rejections.{rejection_of}
use Rattle.pus_fields.specs.Telecommand.{Telecommand}
use Rattle.pus_fields.specs.TelecommandFaults.{telecommand_in, unless_rejected, telecommand_answer, telecommand_of}
use Rattle.pus_fields.specs.Telemetry.{telemetry_octets}
use Rattle.obcp_types.specs.declared.failure.CompletionFailure.{CompletionFailure}
use Rattle.obcp_types.specs.declared.failure.RequestFault.{RequestFault}
use Rattle.obcp_types.specs.declared.failure.AcceptanceFailure.{AcceptanceFailure}
use Rattle.obcp_types.specs.declared.failure.AcceptanceFailure.TheVariants as acceptance
use Rattle.obcp_types.specs.declared.pending.Due.{Due}
use Rattle.obcp_types.specs.declared.status.StatusRow.{StatusRow}
use Rattle.obcp_types.specs.Codes.{acceptance_code, completion_code}
use Rattle.obcp_messages.specs.declared.report.StartFault.{StartFault}
use Rattle.obcp_messages.specs.declared.report.StartFault.TheVariants.{BadCode, Plain}
use Rattle.obcp_messages.specs.declared.report.Report.{Report}
use Rattle.obcp_messages.specs.declared.request.Request.{Request as Command}
use Rattle.obcp_messages.specs.Report.{start_fault, fault_data, row_data, report_data}
use Rattle.verification.specs.declared.outcome.Outcome.{Outcome}
use Rattle.verification.specs.declared.outcome.Outcome.TheVariants as O
use Rattle.verification.specs.declared.notice.Notice.{Notice}
use Rattle.verification.specs.declared.notice.Notice.TheVariants.{Accepted, NotAccepted, Started, NotStarted, Answer, Completed, NotCompleted}
use Rattle.verification.specs.Reports.{wants_acceptance, wants_start, wants_completion, optional_report, reports_of_outcome, completion}
use Rattle.ocp_table.specs.Records.{Records}
use Rattle.ocp_table.specs.Effects as table
use Rattle.ocp_table.specs.Shown.{statuses_of}
use Rattle.ocp_table.specs.Deciding.{effect_in}
use Rattle.ocp_reports.specs.declared.origin.Origin.{Origin}
use Rattle.ocp_reports.specs.Origin.{Dispatch, origin_of, origin_of_packet}
use Rattle.ocp_reports.specs.Reports.{dispatch_of_notice, reports_of}
use Rattle.ocp_reports.specs.Due.{origin_of_due, due_dispatches, drain_dispatches}
use Rattle.ocp_reports.specs.Packets.{packets, telemetry_of}
use Rattle.ocp_reports.proofs.Pieces.{length-telemetry}
use Rattle.ocp_world.specs.World.{World}
use Rattle.ocp_world.specs.Effect.{Reply, Sends}
use Rattle.ocp_world.specs.Requests.{outcome_by, start_effect, status_report, command_effect, command_of, service_effect, request_effect}
use Rattle.ocp_world.proofs.Asked.{each_asked}
use Rattle.ocp_c.proofs.Few.{length-statuses}
use Rattle.ocp_c.proofs.Origins.{excess, four_octets}

-- ---- packets

-- each report has at most `most` octets of data
abbrev pub AreShort : ℕ → List Dispatch → Type 0
AreShort most [] = Unit {0}
AreShort most (d ∷ ds) = (length (report_data d.report) ≤ most) × AreShort most ds

short-append : (most : ℕ) (xs ys : List Dispatch) → AreShort most xs → AreShort most ys → AreShort most (xs ++ ys)
short-append most [] ys p q = q
short-append most (x ∷ xs) ys p q = (p.0, short-append most xs ys p.1 q)

pub short_packets : (most apid n : ℕ) (ds : List Dispatch) → AreShort most ds → All (λ (packet : List ℕ). length packet ≤ 19 + most) (packets apid n ds)
short_packets most apid n [] p = All-nil (λ (packet : List ℕ). length packet ≤ 19 + most)
short_packets most apid n (d ∷ ds) p =
    let tm = telemetry_of apid n d in
    let size : length (telemetry_octets tm) ≡ 19 + length (report_data d.report) = length-telemetry tm in
    let short = p.0 in
    All-cons (λ (packet : List ℕ). length packet ≤ 19 + most) (telemetry_octets tm) (packets apid (n + 1) ds) (omega (arith, size, short)) (short_packets most apid (n + 1) ds p.1)

-- ---- the reports of an outcome

-- at most `count`, each with at most `most` octets of data
pub record Are (count most : ℕ) (ds : List Dispatch) : Type 0 where
  pub few : length ds ≤ count
  pub short : AreShort most ds

length-fault : (fault : StartFault) → length (fault_data fault) ≤ 5
length-fault (BadCode number slot) = omega arith
length-fault (Plain code) = omega arith

-- an answer report, if there is one, is short
abbrev Fits : List Report → Type 0
Fits [] = Unit {0}
Fits (r ∷ []) = length (report_data r) ≤ 49
Fits (r ∷ s ∷ rs) = ⊥

module _ (origin : Origin) (four : length origin.request ≤ 4) (answer : List Report) (fits : Fits answer) where
  abbrev of : Notice → List Dispatch
  of notice = dispatch_of_notice origin answer notice

  code : (number : ℕ) → length (origin.request ++ big_bytes 2 number) ≤ 6
  code number = let whole : length (origin.request ++ big_bytes 2 number) ≡ length origin.request + 2 = length-append origin.request (big_bytes 2 number) in omega (arith, whole, four)

  of_answer : (rs : List Report) → answer ≡ rs → Fits rs → Are 1 49 (of Answer)
  of_answer [] e h = subst (λ rs. Are 1 49 (dispatch_of_notice origin rs Answer)) (sym e) (record { few = omega arith; short = tt })
  of_answer (r ∷ []) e h = subst (λ rs. Are 1 49 (dispatch_of_notice origin rs Answer)) (sym e) (record { few = omega arith; short = (h, tt) })
  of_answer (r ∷ s ∷ rs) e h = absurd h

  of_notice : (notice : Notice) → Are 1 49 (of notice)
  of_notice Accepted = record { few = omega arith; short = (omega (arith, four), tt) }
  of_notice (NotAccepted failure) = record { few = omega arith; short = (let is = code (acceptance_code failure) in omega (arith, is), tt) }
  of_notice Started = record { few = omega arith; short = (omega (arith, four), tt) }
  of_notice (NotStarted failure) =
      let fault = start_fault failure in
      let small = length-fault fault in
      let whole = length-append origin.request (fault_data fault) in
      record { few = omega arith; short = (omega (arith, whole, small, four), tt) }
  of_notice Answer = of_answer answer refl fits
  of_notice Completed = record { few = omega arith; short = (omega (arith, four), tt) }
  of_notice (NotCompleted failure) = record { few = omega arith; short = (let is = code (completion_code failure) in omega (arith, is), tt) }

  of_notices : (ns : List Notice) → Are (length ns) 49 (flat_map of ns)
  of_notices [] = record { few = omega arith; short = tt }
  of_notices (n ∷ ns) =
      let here = of_notice n in
      let rest = of_notices ns in
      let some = here.few in
      let others = rest.few in
      let whole = length-append (of n) (flat_map of ns) in
      record { few = omega (arith, whole, some, others); short = short-append 49 (of n) (flat_map of ns) here.short rest.short }

  one_at_most : (wanted : Bool) (notice : Notice) → length (optional_report wanted notice) ≤ 1
  one_at_most true notice = omega arith
  one_at_most false notice = omega arith

  four_at_most : (outcome : Outcome) → length (reports_of_outcome origin.ack outcome) ≤ 4
  four_at_most (O.Refused failure) = omega arith
  four_at_most (O.NotStarted failure) =
      let accepted = optional_report (wants_acceptance origin.ack) Accepted in
      let one : length accepted ≤ 1 = one_at_most (wants_acceptance origin.ack) Accepted in
      let whole : length (accepted ++ NotStarted failure ∷ []) ≡ length accepted + 1 = length-append accepted (NotStarted failure ∷ []) in
      omega (arith, one, whole)
  four_at_most O.Started =
      let accepted = optional_report (wants_acceptance origin.ack) Accepted in
      let started = optional_report (wants_start origin.ack) Started in
      let one : length accepted ≤ 1 = one_at_most (wants_acceptance origin.ack) Accepted in
      let two : length started ≤ 1 = one_at_most (wants_start origin.ack) Started in
      let whole : length (accepted ++ started) ≡ length accepted + length started = length-append accepted started in
      omega (arith, one, two, whole)
  four_at_most O.Done =
      let accepted = optional_report (wants_acceptance origin.ack) Accepted in
      let started = optional_report (wants_start origin.ack) Started in
      let completed = optional_report (wants_completion origin.ack) Completed in
      let one : length accepted ≤ 1 = one_at_most (wants_acceptance origin.ack) Accepted in
      let two : length started ≤ 1 = one_at_most (wants_start origin.ack) Started in
      let three : length completed ≤ 1 = one_at_most (wants_completion origin.ack) Completed in
      let front = length-append accepted started in
      let whole = length-append (accepted ++ started) (Answer ∷ completed) in
      omega (arith, one, two, three, front, whole)

  pub of_outcome : (outcome : Outcome) → Are 4 49 (reports_of origin outcome answer)
  of_outcome outcome =
      let all = of_notices (reports_of_outcome origin.ack outcome) in
      let few = all.few in
      let most = four_at_most outcome in
      record { few = omega (arith, few, most); short = all.short }

-- ---- the reports of a request

abbrev pub IsShortReply : Reply → Type 0
IsShortReply (Sends ds) = Are 4 49 ds
IsShortReply reply = Unit {0}

rows_length : (rows : List StatusRow) → length (flat_map row_data rows) ≡ 3 * length rows
rows_length [] = refl
rows_length (row ∷ rows) = let whole = length-append (row_data row) (flat_map row_data rows) in let rest = rows_length rows in omega (arith, whole, rest)

status_fits : (m : Records) → len m ≤ 16 → Fits (status_report m ∷ [])
status_fits m few =
    let rows = statuses_of m in
    let size : length rows ≡ len m = length-statuses m in
    let each : length (flat_map row_data rows) ≡ 3 * length rows = rows_length rows in
    let whole : length (big_bytes 1 (length rows) ++ flat_map row_data rows) ≡ 1 + length (flat_map row_data rows) = length-append (big_bytes 1 (length rows)) (flat_map row_data rows) in
    omega (arith, few, size, each, whole)

short_start : (origin : Origin) → length origin.request ≤ 4 → (answer : List Report) → Fits answer → (effect : table.Effect) → IsShortReply (start_effect origin answer effect).reply
short_start origin four answer fits effect = of_outcome origin four answer fits (outcome_by effect)

module _ (w : World) (few : len w.records ≤ 16) where
  short_command : (request : Command) (origin : Origin) → length origin.request ≤ 4 → IsShortReply (command_effect request origin w).reply
  short_command request origin four = each_asked w origin (λ effect. IsShortReply effect.reply) (λ d id is. short_start origin four [] tt (effect_in d id w.records)) (of_outcome origin four (status_report w.records ∷ []) (status_fits w.records few) O.Done) request

  short_refusal : (origin : Origin) → length origin.request ≤ 4 → (failure : AcceptanceFailure) → Are 4 49 (reports_of origin (O.Refused failure) [])
  short_refusal origin four failure = of_outcome origin four [] tt (O.Refused failure)

  short_service : (r : Result Command RequestFault) (origin : Origin) → length origin.request ≤ 4 → IsShortReply (service_effect r origin w).reply
  short_service (Ok request) origin four = short_command request origin four
  short_service (Err why) origin four = short_refusal origin four (acceptance.Request why)

  -- the identifier of a rejected request is its first four octets
  abbrev IsShortRead : Result Telecommand TcFault → Type 0
  IsShortRead (Err (Rejected why request)) = length request ≤ 4
  IsShortRead r = Unit {0}

  first_four : (octets : List ℕ) → length (take 4 octets) ≤ 4
  first_four octets = let is = length-take 4 octets in omega (arith, is)

  short_rejection : (octets : List ℕ) (o : Option Rejection) (tc : Telecommand) → IsShortRead (unless_rejected octets o tc)
  short_rejection octets (Some why) tc = first_four octets
  short_rejection octets None tc = tt

  short_answer : (apid : ℕ) (octets : List ℕ) (found : Result (Primary × List ℕ) PacketFault) → IsShortRead (telecommand_answer apid octets found)
  short_answer apid octets (Err fault) = tt
  short_answer apid octets (Ok found) =
      let read = unless_rejected octets (rejection_of 7 octets found.0 found.1) (telecommand_in found.0.apid found.0.count found.1) in
      elim (not found.0.telecommand) as (λ b. IsShortRead (cond b (Err (Discarded NotTelecommand)) (cond (not (found.0.apid == apid)) (Err (Discarded OtherApid)) read))) [
        | true ↦ tt
        | false ↦ elim (not (found.0.apid == apid)) as (λ b. IsShortRead (cond b (Err (Discarded OtherApid)) read)) [
          | true ↦ tt
          | false ↦ short_rejection octets (rejection_of 7 octets found.0 found.1) (telecommand_in found.0.apid found.0.count found.1)
        ]
      ]

  short_read : (apid : ℕ) (octets : List ℕ) → IsShortRead (telecommand_of apid octets)
  unfolding telecommand_of
  short_read apid octets = short_answer apid octets (packet_in octets)

  short_by : (r : Result Telecommand TcFault) (time : ℕ) → IsShortRead r → IsShortReply (request_effect r time w).reply
  short_by (Ok tc) time short = short_service (command_of w.profile tc) (origin_of tc time) (omega arith)
  short_by (Err (Rejected rejection request)) time short = short_refusal (origin_of_packet request time) short (acceptance.Packet rejection)
  short_by (Err (Discarded cause)) time short = tt

  pub short_request : (octets : List ℕ) (time : ℕ) → IsShortReply (request_effect (telecommand_of w.apid octets) time w).reply
  short_request octets time = short_by (telecommand_of w.apid octets) time (short_read w.apid octets)

-- ---- the reports of a drain

module _ (time : ℕ) (d : Due) (four : length d.origin.request ≤ 4) where
  abbrev reported : Option Notice → List Dispatch
  reported o = option_map_or (dispatch_of_notice (origin_of_due time d) []) o []

  by_flag : (wanted : Bool) → Are 1 6 (reported (cond wanted (Some Completed) None))
  by_flag true = record { few = omega arith; short = (omega (arith, four), tt) }
  by_flag false = record { few = omega arith; short = tt }

  by_failure : (failure : Option CompletionFailure) → Are 1 6 (reported (completion d.origin.ack failure))
  by_failure (Some failure) =
      let whole : length (d.origin.request ++ big_bytes 2 (completion_code failure)) ≡ length d.origin.request + 2 = length-append d.origin.request (big_bytes 2 (completion_code failure)) in
      record { few = omega arith; short = (omega (arith, whole, four), tt) }
  by_failure None = by_flag (wants_completion d.origin.ack)

  short_due : Are 1 6 (due_dispatches time d)
  short_due = by_failure d.failure

pub short_drained : (time : ℕ) (ds : List Due) → sum_by (λ (d : Due). excess d.origin) ds ≡ 0 → Are (length ds) 6 (drain_dispatches time ds)
short_drained time [] light = record { few = omega arith; short = tt }
short_drained time (d ∷ ds) light =
    let parts = sum_by-cons (λ (d : Due). excess d.origin) d ds in
    let here = short_due time d (four_octets d.origin (omega (arith, parts, light))) in
    let rest = short_drained time ds (omega (arith, parts, light)) in
    let some = here.few in
    let others = rest.few in
    let whole = length-append (due_dispatches time d) (drain_dispatches time ds) in
    record { few = omega (arith, whole, some, others); short = short-append 6 (due_dispatches time d) (drain_dispatches time ds) here.short rest.short }
