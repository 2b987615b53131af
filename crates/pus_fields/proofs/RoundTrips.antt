-- One packet for a telecommand or telemetry, which is read back.
use Rattle.std.proofs.Common.{◌≡◌, ◌<◌, ◌≤◌, ℕ, ◌^◌, Bool, true, false, eqb, All, List, length, drop, refl, sym, ap, ◌∙◌, arith, Ok, eq-eqb}
use Rattle.std.proofs.lemmas.Bool.{le-ltb}
use Rattle.space_packet.specs.declared.primary.Primary.{Primary}
use Rattle.space_packet.specs.declared.primary.SequenceFlags.{SequenceFlags}
use Rattle.space_packet.specs.declared.primary.SequenceFlags.TheVariants.{Continuation, First, Last, Unsegmented}
use Rattle.space_packet.specs.Packet.{IsOctet, IsPacket, bit, flags_number, flags_of, header_in, packet_in}
use Rattle.pus_fields.specs.Controlled.{whole_header}
use Rattle.pus_fields.specs.Telecommand.{IsTelecommand, IsTelecommandInRange, Telecommand, telecommand_covered, telecommand_octets}
use Rattle.pus_fields.specs.TelecommandFaults.{telecommand_of}
use Rattle.pus_fields.specs.Telemetry.{IsTelemetry, IsTelemetryInRange, Telemetry, telemetry_covered, telemetry_octets}
use Rattle.pus_fields.specs.TelemetryFaults.{telemetry_of}
use Rattle.pus_fields.proofs.Controlled.{OnePacket, PacketsAreWritten, one_controlled}
use Rattle.pus_fields.proofs.Fields.{packet-length}
use Rattle.pus_fields.proofs.ReadTelecommand.{tc_is_read}
use Rattle.pus_fields.proofs.ReadTelemetry.{tm_is_read}
use Rattle.pus_fields.proofs.Written.{telecommand_octets-is, telecommand_words, telemetry_octets-is, telemetry_words}

bit_back : (b : Bool) → eqb (bit b) 1 ≡ b
bit_back true = refl
bit_back false = refl

flags_back : (f : SequenceFlags) → flags_of (flags_number f) ≡ f
flags_back Continuation = refl
flags_back First = refl
flags_back Last = refl
flags_back Unsegmented = refl

-- a packet is taken apart into its header and its data field
packet_in-is : (octets : List ℕ) (header : Primary) (field : List ℕ) → IsPacket octets header field → packet_in octets ≡ Ok (header, field)
packet_in-is octets header field p =
    let long = le-ltb (length octets) 7 (packet-length octets header field p) in
    let whole = eq-eqb _ (length (drop 6 octets)) (p.data_length ∙ ap length (sym p.remain)) in
    let top : header_in octets ≡ header = rw (p.telecommand, p.secondary, p.apid, p.flags, p.count, bit_back header.telecommand, bit_back header.secondary, flags_back header.flags) refl in
    rw (long, p.version, whole) (λ i. Ok (top i, p.remain i))

pub tc_read_back : (tc : Telecommand) → PacketsAreWritten → IsTelecommandInRange tc → length tc.payload ≤ 65529 → telecommand_of tc.apid (telecommand_octets tc) ≡ Ok tc
tc_read_back tc law r h =
    let is = telecommand_octets-is tc law r h in
    tc_is_read tc.apid (telecommand_octets tc) (whole_header true tc.apid tc.count) _ (packet_in-is _ _ _ is.controlled.packet) tc is refl refl refl

pub tm_read_back : (tm : Telemetry) → PacketsAreWritten → IsTelemetryInRange tm → length tm.payload ≤ 65523 → telemetry_of (telemetry_octets tm) ≡ Ok tm
tm_read_back tm law r h =
    let is = telemetry_octets-is tm law r h in
    tm_is_read (telemetry_octets tm) (whole_header false tm.apid tm.count) _ (packet_in-is _ _ _ is.controlled.packet) tm is refl refl

pub tc_one_packet : (octets : List ℕ) (tc : Telecommand) → PacketsAreWritten → OnePacket → All IsOctet octets → IsTelecommand octets tc → octets ≡ telecommand_octets tc
unfolding telecommand_octets
tc_one_packet octets tc law one all h =
    let apid : tc.apid < 2 ^ 11 = omega (arith, h.in_range.apid) in
    one_controlled octets _ _ (telecommand_covered tc) law one all (apid, h.in_range.count) h.controlled (telecommand_words tc)

pub tm_one_packet : (octets : List ℕ) (tm : Telemetry) → PacketsAreWritten → OnePacket → All IsOctet octets → IsTelemetry octets tm → octets ≡ telemetry_octets tm
unfolding telemetry_octets
tm_one_packet octets tm law one all h = one_controlled octets _ _ (telemetry_covered tm) law one all (h.in_range.apid, h.in_range.count) h.controlled (telemetry_words tm)
