-- What is read as a telecommand.
use Rattle.std.proofs.Common.{◌≡◌, ◌<◌, ◌≤◌, ℕ, ◌+◌, ◌*◌, ◌/◌, ◌%◌, ◌^◌, true, false, eqb, List, [], ◌∷◌, ◌++◌, length, take, drop, slice_index, refl, sym, ap, subst, ◌∙◌, arith, Option, Some, None, Ok, Err, eq-eqb}
use Rattle.byteorder.specs.Endian.{big_bytes, big_number}
use Rattle.space_packet.specs.declared.primary.Primary.{Primary}
use Rattle.space_packet.specs.declared.fault.PacketFault.{PacketFault}
use Rattle.space_packet.specs.Packet.{IsPacket, bit, flags_number, packet_in}
use Rattle.pus_fields.specs.declared.fault.Discard.TheVariants.{NotTelecommand, OtherApid}
use Rattle.pus_fields.specs.declared.fault.Rejection.{Rejection}
use Rattle.pus_fields.specs.declared.fault.TcFault.TheVariants.{Discarded, Rejected}
use Rattle.pus_fields.specs.Acknowledgement.{flags, flags_of}
use Rattle.pus_fields.specs.Controlled.{whole_header}
use Rattle.pus_fields.specs.Rejections.{IsSound, IsWhole, last_two, rejection_of}
use Rattle.pus_fields.specs.Telecommand.{IsTelecommand, Telecommand, request_id, telecommand_secondary}
use Rattle.pus_fields.specs.TelecommandFaults.{discard_of, telecommand_answer, telecommand_in, telecommand_of, unless_rejected}
use Rattle.pus_fields.proofs.Controlled.{none_rejected, sound_controlled}
use Rattle.pus_fields.proofs.Fields.{AreOctets, between-is, field_split, octets-drop}

pub tc_no_packet : (apid : ℕ) (octets : List ℕ) (fault : PacketFault) → packet_in octets ≡ Err fault → telecommand_of apid octets ≡ Err (Discarded (discard_of fault))
unfolding telecommand_of
tc_no_packet apid octets fault e = ap (telecommand_answer apid octets) e

pub tc_not_telecommand : (apid : ℕ) (octets : List ℕ) (header : Primary) (field : List ℕ) → packet_in octets ≡ Ok (header, field) → header.telecommand ≡ false → telecommand_of apid octets ≡ Err (Discarded NotTelecommand)
unfolding telecommand_of
tc_not_telecommand apid octets header field e t = ap (telecommand_answer apid octets) e ∙ rw t refl

pub tc_other : (apid : ℕ) (octets : List ℕ) (header : Primary) (field : List ℕ) → packet_in octets ≡ Ok (header, field) → header.telecommand ≡ true → eqb header.apid apid ≡ false → telecommand_of apid octets ≡ Err (Discarded OtherApid)
unfolding telecommand_of
tc_other apid octets header field e t o = ap (telecommand_answer apid octets) e ∙ rw (t, o) refl

pub tc_ours : (apid : ℕ) (octets : List ℕ) (header : Primary) (field : List ℕ) → packet_in octets ≡ Ok (header, field) → header.telecommand ≡ true → eqb header.apid apid ≡ true
    → telecommand_of apid octets ≡ unless_rejected octets (rejection_of 7 octets header field) (telecommand_in header.apid header.count field)
unfolding telecommand_of
tc_ours apid octets header field e t o = ap (telecommand_answer apid octets) e ∙ rw (t, o) refl

pub tc_rejected : (apid : ℕ) (octets : List ℕ) (header : Primary) (field : List ℕ) → packet_in octets ≡ Ok (header, field) → header.telecommand ≡ true → eqb header.apid apid ≡ true
    → (why : Rejection) (id : List ℕ) → Some why ≡ rejection_of 7 octets header field → id ≡ take 4 octets → Err (Rejected why id) ≡ telecommand_of apid octets
tc_rejected apid octets header field e t o why id r f =
    (λ i. Err (Rejected why (f i))) ∙ ap (λ (x : Option Rejection). unless_rejected octets x (telecommand_in header.apid header.count field)) r ∙ sym (tc_ours apid octets header field e t o)

pub tc_accepted : (apid : ℕ) (octets : List ℕ) (header : Primary) (field : List ℕ) → packet_in octets ≡ Ok (header, field) → header.telecommand ≡ true → eqb header.apid apid ≡ true
    → None ≡ rejection_of 7 octets header field → Ok (telecommand_in header.apid header.count field) ≡ telecommand_of apid octets
tc_accepted apid octets header field e t o r =
    ap (λ (x : Option Rejection). unless_rejected octets x (telecommand_in header.apid header.count field)) r ∙ sym (tc_ours apid octets header field e t o)

pub same_telecommand : (a b : Telecommand) → a.apid ≡ b.apid → a.count ≡ b.count → flags_of a.ack ≡ flags_of b.ack → a.service ≡ b.service → a.subtype ≡ b.subtype → a.source ≡ b.source → a.payload ≡ b.payload → a ≡ b
same_telecommand a b h1 h2 h3 h4 h5 h6 h7 = λ i. record {
  apid = h1 i;
  count = h2 i;
  ack = flags (h3 i);
  service = h4 i;
  subtype = h5 i;
  source = h6 i;
  payload = h7 i;
}

-- the octets of a telecommand are read as that telecommand
pub tc_is_read : (apid : ℕ) (octets : List ℕ) (header : Primary) (field : List ℕ) → packet_in octets ≡ Ok (header, field)
    → (tc : Telecommand) → (h : IsTelecommand octets tc) → tc.apid ≡ apid → header ≡ whole_header true tc.apid tc.count → field ≡ telecommand_secondary tc ++ tc.payload ++ big_bytes 2 h.controlled.control
    → telecommand_of apid octets ≡ Ok tc
tc_is_read apid octets header field e tc h a p q =
    let r = h.in_range in
    let said = telecommand_secondary tc ++ tc.payload ++ big_bytes 2 h.controlled.control in
    let whole : packet_in octets ≡ Ok (whole_header true tc.apid tc.count, said) = e ∙ (λ i. Ok (p i, q i)) in
    let version : (2 * 2 ^ 4 + flags_of tc.ack) % 256 / 2 ^ 4 ≡ 2 = omega (arith, r.ack) in
    let sound = none_rejected 7 octets true tc.apid tc.count (telecommand_secondary tc ++ tc.payload) h.controlled (omega arith) version in
    let same : telecommand_in tc.apid tc.count said ≡ tc = same_telecommand _ _ refl refl (omega (arith, r.ack)) (omega (arith, r.service)) (omega (arith, r.subtype)) (omega (arith, r.source)) (between-is said tc.payload 5 h.controlled.control refl) in
    tc_ours apid octets (whole_header true tc.apid tc.count) said whole refl (eq-eqb tc.apid apid a)
    ∙ ap (λ (x : Option Rejection). unless_rejected octets x (telecommand_in tc.apid tc.count said)) sound ∙ ap Ok same

-- the first five octets of a data field are the secondary header that they spell
sound_field : (a b c d e apid count control : ℕ) (rest : List ℕ) → AreOctets (a ∷ b ∷ c ∷ d ∷ e ∷ rest) → a / 2 ^ 4 ≡ 2
    → let field = a ∷ b ∷ c ∷ d ∷ e ∷ rest in
    let tc = telecommand_in apid count field in
    rest ≡ tc.payload ++ big_bytes 2 control → field ≡ telecommand_secondary tc ++ tc.payload ++ big_bytes 2 control
sound_field a b c d e apid count control rest h v r =
    let p : a < 256 = h 0 in
    let q : b < 256 = h 1 in
    let s : c < 256 = h 2 in
    let t : d < 256 = h 3 in
    let u : e < 256 = h 4 in
    let first : a ≡ (2 * 2 ^ 4 + a % 2 ^ 4) % 256 = omega (arith, v) in
    let service : b ≡ b % 256 = omega arith in
    let subtype : c ≡ c % 256 = omega arith in
    let high : d ≡ big_number 2 (d ∷ e ∷ rest) / 256 % 256 = omega arith in
    let low : e ≡ big_number 2 (d ∷ e ∷ rest) % 256 = omega arith in
    λ i. first i ∷ service i ∷ subtype i ∷ high i ∷ low i ∷ r i

-- the same for each data field that is long enough
whole_field : (field : List ℕ) (apid count control : ℕ) → 7 ≤ length field → AreOctets field → slice_index field 0 / 2 ^ 4 ≡ 2
    → let tc = telecommand_in apid count field in drop 5 field ≡ tc.payload ++ big_bytes 2 control → field ≡ telecommand_secondary tc ++ tc.payload ++ big_bytes 2 control
whole_field (a ∷ b ∷ c ∷ d ∷ e ∷ rest) apid count control le h v r = sound_field a b c d e apid count control rest h v r
whole_field _ apid count control le h v r = absurd (omega (arith, le))

-- a sound packet of this process is the telecommand that it carries
pub sound_is : (octets : List ℕ) (header : Primary) (field : List ℕ) → IsPacket octets header field → IsSound 7 octets header field → header.telecommand ≡ true → header.apid < 2047 → AreOctets octets
    → IsTelecommand octets (telecommand_in header.apid header.count field)
sound_is octets header field packet sound t apid h =
    let tc = telecommand_in header.apid header.count field in
    let fields : AreOctets field = subst AreOctets packet.remain (octets-drop 6 octets h) in
    let split : drop 5 field ≡ tc.payload ++ big_bytes 2 (last_two octets) = field_split octets header field 5 packet sound.whole.room h in
    let whole : field ≡ telecommand_secondary tc ++ tc.payload ++ big_bytes 2 (last_two octets) = whole_field field header.apid header.count (last_two octets) sound.whole.room fields sound.version split in
    record {
      in_range = record { apid = apid; count = omega (arith, packet.count); ack = omega arith; service = fields 1; subtype = fields 2; source = omega (arith, octets-drop 3 field fields 0, octets-drop 3 field fields 1) };
      controlled = sound_controlled 7 octets true header field (telecommand_secondary tc ++ tc.payload) packet sound t h whole;
    }

-- six octets whose number has the fields of a telecommand's header begin with its request identifier
id_in_head : (a b c d e f apid count : ℕ) → a < 256 → b < 256 → c < 256 → d < 256 → e < 256 → f < 256
    → let n = (((((0 * 256 + a) * 256 + b) * 256 + c) * 256 + d) * 256 + e) * 256 + f in
    n / 2 ^ 45 % 2 ^ 3 ≡ 0 → n / 2 ^ 44 % 2 ≡ 1 → n / 2 ^ 43 % 2 ≡ 1 → n / 2 ^ 32 % 2 ^ 11 ≡ apid → n / 2 ^ 30 % 2 ^ 2 ≡ 3 → n / 2 ^ 16 % 2 ^ 14 ≡ count
    → a ∷ b ∷ c ∷ d ∷ [] ≡ request_id apid count
id_in_head a b c d e f apid count al bl cl dl el fl version telecommand secondary process flags counted =
    let n = (((((0 * 256 + a) * 256 + b) * 256 + c) * 256 + d) * 256 + e) * 256 + f in
    let low : n / 2 ^ 16 ≡ ((a * 256 + b) * 256 + c) * 256 + d = omega (arith, el, fl) in
    let high : n / 2 ^ 32 ≡ a * 256 + b = omega (arith, cl, dl, el, fl) in
    let first : a * 256 + b ≡ 2 ^ 12 + 2 ^ 11 + apid = omega (arith, high, al, bl, version, telecommand, secondary, process) in
    let second : c * 256 + d ≡ 3 * 2 ^ 14 + count = omega (arith, low, cl, dl, flags, counted) in
    let one : a ≡ (2 ^ 12 + 2 ^ 11 + apid) / 256 % 256 = omega (arith, first, al, bl) in
    let two : b ≡ (2 ^ 12 + 2 ^ 11 + apid) % 256 = omega (arith, first, bl) in
    let three : c ≡ (3 * 2 ^ 14 + count) / 256 % 256 = omega (arith, second, cl, dl) in
    let four : d ≡ (3 * 2 ^ 14 + count) % 256 = omega (arith, second, dl) in
    λ i. one i ∷ two i ∷ three i ∷ four i ∷ []

-- a telecommand packet that is unsegmented and has a secondary header begins with its request identifier
pub id_is : (octets : List ℕ) (header : Primary) (field : List ℕ) → IsPacket octets header field → IsWhole 7 header field → header.telecommand ≡ true → 7 ≤ length octets → AreOctets octets
    → take 4 octets ≡ request_id header.apid header.count
id_is (a ∷ b ∷ c ∷ d ∷ e ∷ f ∷ rest) header field packet whole t le h =
    id_in_head a b c d e f header.apid header.count (h 0) (h 1) (h 2) (h 3) (h 4) (h 5) packet.version (packet.telecommand ∙ ap bit t) (packet.secondary ∙ ap bit whole.secondary) packet.apid (packet.flags ∙ ap flags_number whole.unsegmented) packet.count
id_is _ header field packet whole t le h = absurd (omega (arith, le))
