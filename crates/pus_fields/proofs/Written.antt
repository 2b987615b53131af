-- What is written is a telecommand, or telemetry.
use Rattle.std.proofs.Common.{◌≡◌, ◌<◌, ◌≤◌, ℕ, ◌+◌, ◌-◌, ◌*◌, ◌^◌, true, false, List, ◌++◌, length, drop, ap, ◌∙◌, arith, length-append, append_assoc}
use Rattle.std.proofs.Math.Seq.{drop-append_seam}
use Rattle.byteorder.specs.Endian.{big_bytes}
use Rattle.pus_fields.specs.Controlled.{whole_header}
use Rattle.pus_fields.specs.ErrorControl.{error_control}
use Rattle.pus_fields.specs.Telecommand.{request_id, IsTelecommand, IsTelecommandInRange, Telecommand, telecommand_covered, telecommand_octets, telecommand_secondary}
use Rattle.pus_fields.specs.Telemetry.{IsTelemetry, IsTelemetryInRange, Telemetry, telemetry_covered, telemetry_octets, telemetry_secondary}
use Rattle.pus_fields.proofs.Controlled.{AreCovered, PacketsAreWritten, controlled}

pub telecommand_words : (tc : Telecommand) → AreCovered (whole_header true tc.apid tc.count) (telecommand_secondary tc ++ tc.payload) (telecommand_covered tc)
telecommand_words tc control =
    let field = telecommand_secondary tc ++ tc.payload ++ big_bytes 2 control in
    let len : length field ≡ length tc.payload + 7 = omega (arith, length-append tc.payload (big_bytes 2 control)) in
    let size : length field - 1 ≡ length tc.payload + 6 = omega (arith, len) in
    ap (λ (n : ℕ). (request_id tc.apid tc.count ++ big_bytes 2 n) ++ field) size

pub telemetry_words : (tm : Telemetry) → AreCovered (whole_header false tm.apid tm.count) (telemetry_secondary tm ++ tm.payload) (telemetry_covered tm)
telemetry_words tm control =
    let field = telemetry_secondary tm ++ tm.payload ++ big_bytes 2 control in
    let len : length field ≡ length tm.payload + 13 = omega (arith, length-append tm.payload (big_bytes 2 control)) in
    let size : length field - 1 ≡ length tm.payload + 12 = omega (arith, len) in
    ap (λ (n : ℕ). (big_bytes 2 (2 ^ 11 + tm.apid) ++ big_bytes 2 (3 * 2 ^ 14 + tm.count) ++ big_bytes 2 n) ++ field) size

pub telecommand_octets-is : (tc : Telecommand) → PacketsAreWritten → IsTelecommandInRange tc → length tc.payload ≤ 65529 → IsTelecommand (telecommand_octets tc) tc
unfolding telecommand_octets
telecommand_octets-is tc law r h =
    let apid : tc.apid < 2 ^ 11 = omega (arith, r.apid) in
    record { in_range = r; controlled = controlled _ _ (telecommand_covered tc) law (apid, r.count) (omega (arith, h)) (telecommand_words tc) }

pub telemetry_octets-is : (tm : Telemetry) → PacketsAreWritten → IsTelemetryInRange tm → length tm.payload ≤ 65523 → IsTelemetry (telemetry_octets tm) tm
unfolding telemetry_octets
telemetry_octets-is tm law r h = record { in_range = r; controlled = controlled _ _ (telemetry_covered tm) law (r.apid, r.count) (omega (arith, h)) (telemetry_words tm) }

-- the octets and their error control, after others
appended : (old reserved new mid xs : List ℕ) (start : ℕ) → reserved ≡ old → start ≡ length reserved → mid ≡ reserved ++ xs
    → new ≡ mid ++ big_bytes 2 (error_control (drop start mid)) → new ≡ old ++ (xs ++ big_bytes 2 (error_control xs))
appended old reserved new mid xs start r s e f =
    let back : drop start mid ≡ xs = ap (λ (n : ℕ). drop n mid) s ∙ ap (drop (length reserved)) e ∙ drop-append_seam reserved xs in
    let control = big_bytes 2 (error_control xs) in
    f ∙ ap (λ (ys : List ℕ). mid ++ big_bytes 2 (error_control ys)) back ∙ ap (λ (ys : List ℕ). ys ++ control) (e ∙ ap (λ (ys : List ℕ). ys ++ xs) r) ∙ append_assoc old xs control

pub appended_tc : (old reserved new mid : List ℕ) (start : ℕ) (tc : Telecommand) → reserved ≡ old → start ≡ length reserved → mid ≡ reserved ++ telecommand_covered tc
    → new ≡ mid ++ big_bytes 2 (error_control (drop start mid)) → new ≡ old ++ telecommand_octets tc
unfolding telecommand_octets
appended_tc old reserved new mid start tc = appended old reserved new mid (telecommand_covered tc) start

pub appended_tm : (old reserved new mid : List ℕ) (start : ℕ) (tm : Telemetry) → reserved ≡ old → start ≡ length reserved → mid ≡ reserved ++ telemetry_covered tm
    → new ≡ mid ++ big_bytes 2 (error_control (drop start mid)) → new ≡ old ++ telemetry_octets tm
unfolding telemetry_octets
appended_tm old reserved new mid start tm = appended old reserved new mid (telemetry_covered tm) start
