-- What is read as telemetry.
use Rattle.std.proofs.Common.{◌≡◌, ◌≢◌, ◌<◌, ◌≤◌, ◌⊎◌, ◌&&◌, inl, inr, ℕ, ◌+◌, ◌*◌, ◌/◌, ◌%◌, ◌^◌, Bool, true, false, eqb, List, [], ◌∷◌, ◌++◌, length, drop, slice_index, refl, sym, ap, subst, ◌∙◌, arith, Option, Some, None, Ok, Err, eq-eqb, ne_eqb}
use Rattle.byteorder.specs.Endian.{big_bytes, big_number}
use Rattle.space_packet.specs.declared.primary.Primary.{Primary}
use Rattle.space_packet.specs.declared.fault.PacketFault.{PacketFault}
use Rattle.space_packet.specs.Packet.{IsPacket, packet_in}
use Rattle.pus_fields.specs.declared.fault.Rejection.{Rejection}
use Rattle.pus_fields.specs.declared.fault.TmFault.TheVariants.{NotProfile, NotTelemetry}
use Rattle.pus_fields.specs.Controlled.{whole_header}
use Rattle.pus_fields.specs.Rejections.{IsSound, last_two, rejection_of}
use Rattle.pus_fields.specs.Telemetry.{IsTelemetry, Telemetry, telemetry_secondary}
use Rattle.pus_fields.specs.TelemetryFaults.{IsOtherProfile, fault_of, fault_of_packet, in_profile, telemetry_answer, telemetry_in, telemetry_of, unless_rejected}
use Rattle.pus_fields.proofs.Controlled.{none_rejected, sound_controlled}
use Rattle.pus_fields.proofs.Fields.{AreOctets, between-is, field_split, octets-drop}

pub tm_no_packet : (octets : List ℕ) (fault : PacketFault) → packet_in octets ≡ Err fault → telemetry_of octets ≡ Err (fault_of_packet fault)
unfolding telemetry_of
tm_no_packet octets fault e = ap (telemetry_answer octets) e

pub tm_not_telemetry : (octets : List ℕ) (header : Primary) (field : List ℕ) → packet_in octets ≡ Ok (header, field) → header.telecommand ≡ true → telemetry_of octets ≡ Err NotTelemetry
unfolding telemetry_of
tm_not_telemetry octets header field e t = ap (telemetry_answer octets) e ∙ rw t refl

tm_other_kind : (octets : List ℕ) (header : Primary) (field : List ℕ) → packet_in octets ≡ Ok (header, field) → header.telecommand ≡ false
    → telemetry_of octets ≡ unless_rejected field (rejection_of 13 octets header field) (telemetry_in header.apid header.count field)
unfolding telemetry_of
tm_other_kind octets header field e t = ap (telemetry_answer octets) e ∙ rw t refl

pub tm_rejected : (octets : List ℕ) (header : Primary) (field : List ℕ) → packet_in octets ≡ Ok (header, field) → header.telecommand ≡ false
    → (why : Rejection) → Some why ≡ rejection_of 13 octets header field → Err (fault_of why) ≡ telemetry_of octets
tm_rejected octets header field e t why r =
    ap (λ (x : Option Rejection). unless_rejected field x (telemetry_in header.apid header.count field)) r ∙ sym (tm_other_kind octets header field e t)

tm_sound : (octets : List ℕ) (header : Primary) (field : List ℕ) → packet_in octets ≡ Ok (header, field) → header.telecommand ≡ false
    → None ≡ rejection_of 13 octets header field → in_profile field (telemetry_in header.apid header.count field) ≡ telemetry_of octets
tm_sound octets header field e t r =
    ap (λ (x : Option Rejection). unless_rejected field x (telemetry_in header.apid header.count field)) r ∙ sym (tm_other_kind octets header field e t)

-- whether the first octet and the counter are those of the profile
abbrev pub tests_profile : List ℕ → Bool
tests_profile field = eqb (slice_index field 0 % 2 ^ 4) 0 && eqb (big_number 2 (drop 3 field)) 0

pub tm_not_profile : (octets : List ℕ) (header : Primary) (field : List ℕ) → packet_in octets ≡ Ok (header, field) → header.telecommand ≡ false
    → None ≡ rejection_of 13 octets header field → tests_profile field ≡ false → Err NotProfile ≡ telemetry_of octets
tm_not_profile octets header field e t r other = rw other at (tm_sound octets header field e t r)

pub tm_accepted : (octets : List ℕ) (header : Primary) (field : List ℕ) → packet_in octets ≡ Ok (header, field) → header.telecommand ≡ false
    → None ≡ rejection_of 13 octets header field → tests_profile field ≡ true → Ok (telemetry_in header.apid header.count field) ≡ telemetry_of octets
tm_accepted octets header field e t r same = rw same at (tm_sound octets header field e t r)

one_false : (a b : Bool) → (a && b) ≡ false → (a ≡ false) ⊎ (b ≡ false)
one_false true b e = inr e
one_false false b e = inl refl

not_equal : (a b : ℕ) → eqb a b ≡ false → a ≢ b
not_equal a b e same = let yes = eq-eqb a b same in absurd cc

-- the two tests, one at a time
pub other_status : (field : List ℕ) → slice_index field 0 % 2 ^ 4 ≢ 0 → tests_profile field ≡ false
other_status field h = rw (ne_eqb _ _ h) refl

pub other_counter : (field : List ℕ) → slice_index field 0 % 2 ^ 4 ≡ 0 → big_number 2 (drop 3 field) ≢ 0 → tests_profile field ≡ false
other_counter field a h = rw (eq-eqb _ _ a, ne_eqb _ _ h) refl

pub both_pass : (field : List ℕ) → slice_index field 0 % 2 ^ 4 ≡ 0 → big_number 2 (drop 3 field) ≡ 0 → tests_profile field ≡ true
both_pass field a b = rw (eq-eqb _ _ a, eq-eqb _ _ b) refl

pub other_profile : (field : List ℕ) → tests_profile field ≡ false → IsOtherProfile field
other_profile field e = elim (one_false (eqb (slice_index field 0 % 2 ^ 4) 0) (eqb (big_number 2 (drop 3 field)) 0) e) [ inl a ↦ inl (not_equal _ _ a) | inr b ↦ inr (not_equal _ _ b) ]

pub same_telemetry : (a b : Telemetry) → a.apid ≡ b.apid → a.count ≡ b.count → a.service ≡ b.service → a.subtype ≡ b.subtype → a.destination ≡ b.destination → a.time ≡ b.time → a.payload ≡ b.payload → a ≡ b
same_telemetry a b h1 h2 h3 h4 h5 h6 h7 = λ i. record {
  apid = h1 i;
  count = h2 i;
  service = h3 i;
  subtype = h4 i;
  destination = h5 i;
  time = h6 i;
  payload = h7 i;
}

-- four octets of a number are that number
four_octets : (n : ℕ) → n < 2 ^ 32 → (n / 16777216 % 256) * 16777216 + ((n / 65536 % 256) * 65536 + ((n / 256 % 256) * 256 + (n % 256 * 1 + 0))) ≡ n
four_octets n h =
    let a : n / 65536 ≡ n / 256 / 256 = omega arith in
    let b : n / 16777216 ≡ n / 256 / 256 / 256 = omega arith in
    omega arith

-- the octets of telemetry are read as that telemetry
pub tm_is_read : (octets : List ℕ) (header : Primary) (field : List ℕ) → packet_in octets ≡ Ok (header, field)
    → (tm : Telemetry) → (h : IsTelemetry octets tm) → header ≡ whole_header false tm.apid tm.count → field ≡ telemetry_secondary tm ++ tm.payload ++ big_bytes 2 h.controlled.control
    → telemetry_of octets ≡ Ok tm
tm_is_read octets header field e tm h p q =
    let r = h.in_range in
    let said = telemetry_secondary tm ++ tm.payload ++ big_bytes 2 h.controlled.control in
    let whole : packet_in octets ≡ Ok (whole_header false tm.apid tm.count, said) = e ∙ (λ i. Ok (p i, q i)) in
    let sound = none_rejected 13 octets false tm.apid tm.count (telemetry_secondary tm ++ tm.payload) h.controlled (omega arith) refl in
    let same : telemetry_in tm.apid tm.count said ≡ tm = same_telemetry _ _ refl refl (omega (arith, r.service)) (omega (arith, r.subtype)) (omega (arith, r.destination)) (four_octets tm.time r.time) (between-is said tm.payload 11 h.controlled.control refl) in
    tm_other_kind octets (whole_header false tm.apid tm.count) said whole refl
    ∙ ap (λ (x : Option Rejection). unless_rejected said x (telemetry_in tm.apid tm.count said)) sound ∙ ap Ok same

-- four octets are those of their number
four_of : (a b c d : ℕ) (rest : List ℕ) → a < 256 → b < 256 → c < 256 → d < 256 → a ∷ b ∷ c ∷ d ∷ [] ≡ big_bytes 4 (big_number 4 (a ∷ b ∷ c ∷ d ∷ rest))
four_of a b c d rest p q r s =
    let n : ℕ = big_number 4 (a ∷ b ∷ c ∷ d ∷ rest) in
    let w : a ≡ n / 16777216 % 256 = omega arith in
    let x : b ≡ n / 65536 % 256 = omega arith in
    let y : c ≡ n / 256 % 256 = omega arith in
    let z : d ≡ n % 256 = omega arith in
    λ i. w i ∷ x i ∷ y i ∷ z i ∷ []

-- the first eleven octets of a data field are the secondary header that they spell
sound_field : (o0 o1 o2 o3 o4 o5 o6 o7 o8 o9 o10 apid count control : ℕ) (rest : List ℕ)
    → let field = o0 ∷ o1 ∷ o2 ∷ o3 ∷ o4 ∷ o5 ∷ o6 ∷ o7 ∷ o8 ∷ o9 ∷ o10 ∷ rest in
    let tm = telemetry_in apid count field in
    AreOctets field → o0 / 2 ^ 4 ≡ 2 → o0 % 2 ^ 4 ≡ 0 → big_number 2 (drop 3 field) ≡ 0
    → rest ≡ tm.payload ++ big_bytes 2 control → field ≡ telemetry_secondary tm ++ tm.payload ++ big_bytes 2 control
sound_field o0 o1 o2 o3 o4 o5 o6 o7 o8 o9 o10 apid count control rest h v s m r =
    let h1 : o1 < 256 = h 1 in
    let h2 : o2 < 256 = h 2 in
    let h5 : o5 < 256 = h 5 in
    let h6 : o6 < 256 = h 6 in
    let first : o0 ≡ 32 = omega (arith, v, s) in
    let service : o1 ≡ o1 % 256 = omega (arith, h1) in
    let subtype : o2 ≡ o2 % 256 = omega (arith, h2) in
    let counter_high : o3 ≡ 0 = omega (arith, m) in
    let counter_low : o4 ≡ 0 = omega (arith, m) in
    let destination : ℕ = big_number 2 (o5 ∷ o6 ∷ o7 ∷ o8 ∷ o9 ∷ o10 ∷ rest) in
    let high : o5 ≡ destination / 256 % 256 = omega (arith, h5, h6) in
    let low : o6 ≡ destination % 256 = omega (arith, h5, h6) in
    let time = four_of o7 o8 o9 o10 rest (h 7) (h 8) (h 9) (h 10) in
    λ i. first i ∷ service i ∷ subtype i ∷ counter_high i ∷ counter_low i ∷ high i ∷ low i ∷ (time i ++ r i)

-- the same for each data field that is long enough
whole_field : (field : List ℕ) (apid count control : ℕ) → 13 ≤ length field → AreOctets field → slice_index field 0 / 2 ^ 4 ≡ 2 → slice_index field 0 % 2 ^ 4 ≡ 0 → big_number 2 (drop 3 field) ≡ 0
    → let tm = telemetry_in apid count field in drop 11 field ≡ tm.payload ++ big_bytes 2 control → field ≡ telemetry_secondary tm ++ tm.payload ++ big_bytes 2 control
whole_field (o0 ∷ o1 ∷ o2 ∷ o3 ∷ o4 ∷ o5 ∷ o6 ∷ o7 ∷ o8 ∷ o9 ∷ o10 ∷ rest) apid count control le h v s m r = sound_field o0 o1 o2 o3 o4 o5 o6 o7 o8 o9 o10 apid count control rest h v s m r
whole_field _ apid count control le h v s m r = absurd (omega (arith, le))

-- a sound packet in the profile is the telemetry that it carries
pub sound_tm_is : (octets : List ℕ) (header : Primary) (field : List ℕ) → IsPacket octets header field → IsSound 13 octets header field → header.telecommand ≡ false
    → slice_index field 0 % 2 ^ 4 ≡ 0 → big_number 2 (drop 3 field) ≡ 0 → AreOctets octets
    → IsTelemetry octets (telemetry_in header.apid header.count field)
sound_tm_is octets header field packet sound t status counter h =
    let tm = telemetry_in header.apid header.count field in
    let fields : AreOctets field = subst AreOctets packet.remain (octets-drop 6 octets h) in
    let split : drop 11 field ≡ tm.payload ++ big_bytes 2 (last_two octets) = field_split octets header field 11 packet sound.whole.room h in
    let whole : field ≡ telemetry_secondary tm ++ tm.payload ++ big_bytes 2 (last_two octets) = whole_field field header.apid header.count (last_two octets) sound.whole.room fields sound.version status counter split in
    let destination = octets-drop 5 field fields in
    let time = octets-drop 7 field fields in
    record {
      in_range = record { apid = omega (arith, packet.apid); count = omega (arith, packet.count); service = fields 1; subtype = fields 2; destination = omega (arith, destination 0, destination 1); time = omega (arith, time 0, time 1, time 2, time 3) };
      controlled = sound_controlled 13 octets false header field (telemetry_secondary tm ++ tm.payload) packet sound t h whole;
    }
