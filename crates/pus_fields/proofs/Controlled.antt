-- Packets with a secondary header and an error control, written and read.
use Rattle.std.proofs.Common.{◌≡◌, ◌≤◌, ℕ, ◌+◌, ◌-◌, ◌/◌, ◌%◌, Bool, All, List, [], ◌∷◌, ◌++◌, length, take, refl, sym, ap, subst, ◌∙◌, arith, length-append, None, eq-eqb}
use Rattle.std.proofs.lemmas.Bool.{le-ltb}
use Rattle.std.proofs.lemmas.List.Elements.{All-append, All-cons, All-drop, All-nil}
use Rattle.std.proofs.Math.Seq.{take-append_seam}
use Rattle.byteorder.specs.Endian.{big_bytes}
use Rattle.space_packet.specs.declared.primary.Primary.{Primary}
use Rattle.space_packet.specs.Packet.{IsHeader, IsOctet, IsPacket, identification, packet_octets, sequence_control}
use Rattle.pus_fields.specs.Controlled.{IsControlled, whole_header}
use Rattle.pus_fields.specs.ErrorControl.{IsErrorControl, error_control}
use Rattle.pus_fields.specs.Rejections.{IsSound, covered_octets, last_two, pus_version, rejection_of}
use Rattle.pus_fields.proofs.Fields.{AreOctets, last_two-is, last_two-lt, packet-length}
use Rattle.pus_fields.proofs.Function.{error_control-is, error_control-lt, same_control}

-- what the packet layer promises of the octets that it writes
abbrev pub PacketsAreWritten : Type 0
PacketsAreWritten = (header : Primary) (payload : List ℕ) → IsHeader header → 1 ≤ length payload → length payload ≤ 65536 → IsPacket (packet_octets header payload) header payload

-- what the packet layer promises: a header and a data field have one packet
abbrev pub OnePacket : Type 0
OnePacket = (p q : List ℕ) (header : Primary) (payload : List ℕ) → All IsOctet p → All IsOctet q → IsPacket p header payload → IsPacket q header payload → p ≡ q

-- the octets are those of the packet with this header, and this front of its data field, except the error control
abbrev pub AreCovered : Primary → List ℕ → List ℕ → Type 0
AreCovered header front xs = (control : ℕ) → packet_octets header (front ++ big_bytes 2 control) ≡ xs ++ big_bytes 2 control

take-two : (xs : List ℕ) (a b : ℕ) → take (length (xs ++ a ∷ b ∷ []) - 2) (xs ++ a ∷ b ∷ []) ≡ xs
take-two xs a b =
    let len : length (xs ++ a ∷ b ∷ []) - 2 ≡ length xs = omega (arith, length-append xs (a ∷ b ∷ [])) in
    ap (λ (n : ℕ). take n (xs ++ a ∷ b ∷ [])) len ∙ take-append_seam xs (a ∷ b ∷ [])

-- octets followed by their error control are a packet
pub controlled : (header : Primary) (front xs : List ℕ) → PacketsAreWritten → IsHeader header → length front ≤ 65534 → AreCovered header front xs → IsControlled (xs ++ big_bytes 2 (error_control xs)) header front
controlled header front xs law range few e =
    let c = error_control xs in
    let field = front ++ big_bytes 2 c in
    let len : length field ≡ length front + 2 = length-append front (big_bytes 2 c) in
    record {
      control = c;
      control_fits = error_control-lt xs;
      packet = subst (λ (ys : List ℕ). IsPacket ys header field) (e c) (law header field range (omega (arith, len)) (omega (arith, len, few)));
      checked = subst (λ (ys : List ℕ). IsErrorControl ys c) (sym (take-two xs (c / 256 % 256) (c % 256))) (error_control-is xs);
    }

all_two : (n : ℕ) → All IsOctet (big_bytes 2 n)
all_two n = All-cons IsOctet (n / 256 % 256) (n % 256 ∷ []) (omega arith) (All-cons IsOctet (n % 256) [] (omega arith) (All-nil IsOctet))

all_packet : (a b c : ℕ) (field : List ℕ) → All IsOctet field → All IsOctet (big_bytes 2 a ++ big_bytes 2 b ++ big_bytes 2 c ++ field)
all_packet a b c field h =
    let size = All-append IsOctet (big_bytes 2 c) field (all_two c) h in
    All-append IsOctet (big_bytes 2 a) (big_bytes 2 b ++ big_bytes 2 c ++ field) (all_two a) (All-append IsOctet (big_bytes 2 b) (big_bytes 2 c ++ field) (all_two b) size)

-- a packet has no other octets
pub one_controlled : (octets : List ℕ) (header : Primary) (front xs : List ℕ) → PacketsAreWritten → OnePacket → All IsOctet octets → IsHeader header → IsControlled octets header front → AreCovered header front xs → octets ≡ xs ++ big_bytes 2 (error_control xs)
one_controlled octets header front xs law one all range h e =
    let c = h.control in
    let field = front ++ big_bytes 2 c in
    let few : length field ≤ 65536 = omega (arith, h.packet.data_length) in
    let some : 1 ≤ length field = omega (arith, h.packet.data_length) in
    let fields : All IsOctet field = subst (All IsOctet) h.packet.remain (All-drop IsOctet 6 octets all) in
    let others : All IsOctet (packet_octets header field) = all_packet (identification header) (sequence_control header) (length field - 1) field fields in
    let same : octets ≡ xs ++ big_bytes 2 c = one octets (packet_octets header field) header field all others h.packet (law header field range some few) ∙ e c in
    let covered : take (length octets - 2) octets ≡ xs = ap (λ (ys : List ℕ). take (length ys - 2) ys) same ∙ take-two xs (c / 256 % 256) (c % 256) in
    let control : c ≡ error_control xs = same_control xs c h.control_fits (subst (λ (ys : List ℕ). IsErrorControl ys c) covered h.checked) in
    same ∙ ap (λ (n : ℕ). xs ++ big_bytes 2 n) control

-- a packet whose secondary header has version number 2 is not rejected
pub none_rejected : (least : ℕ) (octets : List ℕ) (telecommand : Bool) (apid count : ℕ) (front : List ℕ) → (h : IsControlled octets (whole_header telecommand apid count) front) → least ≤ length front + 2
    → pus_version (front ++ big_bytes 2 h.control) ≡ 2 → rejection_of least octets (whole_header telecommand apid count) (front ++ big_bytes 2 h.control) ≡ None
none_rejected least octets telecommand apid count front h enough v =
    let field = front ++ big_bytes 2 h.control in
    let len : length field ≡ length front + 2 = length-append front (big_bytes 2 h.control) in
    let last : last_two octets ≡ h.control = last_two-is octets front h.control h.packet.remain h.control_fits in
    let room = le-ltb (length field) least (omega (arith, len, enough)) in
    let control = eq-eqb (error_control (covered_octets octets)) (last_two octets) (sym (same_control (covered_octets octets) h.control h.control_fits h.checked) ∙ sym last) in
    let version = eq-eqb (pus_version field) 2 v in
    rw (room, control, version) refl

-- a packet that is not rejected is controlled
pub sound_controlled : (least : ℕ) (octets : List ℕ) (telecommand : Bool) (header : Primary) (field front : List ℕ) → IsPacket octets header field → IsSound least octets header field → header.telecommand ≡ telecommand → AreOctets octets
    → field ≡ front ++ big_bytes 2 (last_two octets) → IsControlled octets (whole_header telecommand header.apid header.count) front
sound_controlled least octets telecommand header field front packet sound t h e =
    let long = packet-length octets header field packet in
    let top : header ≡ whole_header telecommand header.apid header.count = λ i. record { telecommand = t i; secondary = sound.whole.secondary i; apid = header.apid; flags = sound.whole.unsegmented i; count = header.count } in
    record {
      control = last_two octets;
      control_fits = last_two-lt octets (omega (arith, long)) h;
      packet = subst (λ (x : Primary). IsPacket octets x (front ++ big_bytes 2 (last_two octets))) top (subst (λ (xs : List ℕ). IsPacket octets header xs) e packet);
      checked = sound.checked;
    }
