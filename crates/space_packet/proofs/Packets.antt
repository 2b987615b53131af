-- A packet has one header and one data field, and these have one packet.
use Rattle.std.proofs.Common.{◌≡◌, ◌<◌, ◌≤◌, ℕ, ◌+◌, ◌*◌, ◌/◌, ◌%◌, ◌^◌, refl, sym, ◌∙◌, ap, Bool, true, false, List, [], ◌∷◌, ◌++◌, length, take, drop, fold, arith}
use Rattle.std.proofs.Common.{All, subst, zero, suc, ◌-◌}
use Rattle.std.proofs.lemmas.List.{take-append-drop, length-take-le, length-drop}
use Rattle.std.proofs.lemmas.List.Elements.{All-head, All-tail, All-take}
use Rattle.space_packet.specs.declared.primary.Primary.{Primary}
use Rattle.space_packet.specs.declared.primary.SequenceFlags.{SequenceFlags}
use Rattle.space_packet.specs.declared.primary.SequenceFlags.TheVariants.{Continuation, First, Last, Unsegmented}
use Rattle.space_packet.specs.Packet.{IsPacket, IsHeader, IsOctet, bit, flags_number, head, identification, sequence_control, packet_octets}

same_primary : (a b : Primary) → a.telecommand ≡ b.telecommand → a.secondary ≡ b.secondary → a.apid ≡ b.apid → a.flags ≡ b.flags → a.count ≡ b.count → a ≡ b
same_primary a b h1 h2 h3 h4 h5 = λ i. record {
  telecommand = h1 i;
  secondary = h2 i;
  apid = h3 i;
  flags = h4 i;
  count = h5 i;
}

same_bit : (a b : Bool) → bit a ≡ bit b → a ≡ b
same_bit true true e = refl
same_bit true false e = absurd (omega (arith, e))
same_bit false true e = absurd (omega (arith, e))
same_bit false false e = refl

same_flags : (a b : SequenceFlags) → flags_number a ≡ flags_number b → a ≡ b
same_flags Continuation Continuation e = refl
same_flags First First e = refl
same_flags Last Last e = refl
same_flags Unsegmented Unsegmented e = refl
same_flags _ _ e = absurd (omega (arith, e))

-- the octets are a packet of one header and one data field
pub one_reading : (octets : List ℕ) (a b : Primary) (x y : List ℕ) → IsPacket octets a x → IsPacket octets b y → (a ≡ b) × (x ≡ y)
one_reading octets a b x y p q = (same_primary a b (same_bit _ _ (sym p.telecommand ∙ q.telecommand)) (same_bit _ _ (sym p.secondary ∙ q.secondary)) (sym p.apid ∙ q.apid) (same_flags _ _ (sym p.flags ∙ q.flags)) (sym p.count ∙ q.count), sym p.remain ∙ q.remain)

-- a number in base 256 gives its digits back
same_digits : (p q : List ℕ) (n m : ℕ) → All IsOctet p → All IsOctet q → length p ≡ length q → fold (λ k octet. k * 256 + octet) n p ≡ fold (λ k octet. k * 256 + octet) m q → (n ≡ m) × (p ≡ q)
same_digits [] [] n m a b l e = (e, refl)
same_digits [] (o ∷ os) n m a b l e = absurd (omega (arith, l))
same_digits (o ∷ os) [] n m a b l e = absurd (omega (arith, l))
same_digits (o ∷ os) (r ∷ rs) n m a b l e =
    let rest = same_digits os rs (n * 256 + o) (m * 256 + r) (All-tail IsOctet o os a) (All-tail IsOctet r rs b) (omega (arith, l)) e in
    let low = All-head IsOctet o os a in
    let below = All-head IsOctet r rs b in
    let high : n ≡ m = omega (arith, rest.0, low, below) in
    let digit : o ≡ r = omega (arith, rest.0, low, below) in
    (high, λ i. digit i ∷ rest.1 i)

-- the least number that a number below `bound` with k more octets after it can't reach
abbrev bound_after : ℕ → ℕ → ℕ
bound_after zero bound = bound
bound_after (suc k) bound = bound_after k (bound * 256)

digits_below : (octets : List ℕ) (n bound : ℕ) → All IsOctet octets → n < bound → fold (λ k octet. k * 256 + octet) n octets < bound_after (length octets) bound
digits_below [] n bound h l = l
digits_below (o ∷ os) n bound h l =
    let low = All-head IsOctet o os h in
    digits_below os (n * 256 + o) (bound * 256) (All-tail IsOctet o os h) (omega (arith, l, low))

-- six octets are a number of 48 bits
head_below : (octets : List ℕ) → 6 ≤ length octets → All IsOctet octets → head octets < 2 ^ 48
head_below octets l h =
    subst (λ (k : ℕ). head octets < bound_after k 1) (length-take-le 6 octets l) (digits_below (take 6 octets) 0 1 (All-take IsOctet 6 octets h) (omega arith))

-- a number of 48 bits is known by the fields of a header
same_fields : (n m : ℕ) → n < 2 ^ 48 → m < 2 ^ 48 → n / 2 ^ 45 % 2 ^ 3 ≡ m / 2 ^ 45 % 2 ^ 3 → n / 2 ^ 44 % 2 ≡ m / 2 ^ 44 % 2 → n / 2 ^ 43 % 2 ≡ m / 2 ^ 43 % 2 → n / 2 ^ 32 % 2 ^ 11 ≡ m / 2 ^ 32 % 2 ^ 11 → n / 2 ^ 30 % 2 ^ 2 ≡ m / 2 ^ 30 % 2 ^ 2 → n / 2 ^ 16 % 2 ^ 14 ≡ m / 2 ^ 16 % 2 ^ 14 → n % 2 ^ 16 ≡ m % 2 ^ 16 → n ≡ m
same_fields n m small few version type secondary apid flags count data_length =
    let a : n / 2 ^ 45 ≡ m / 2 ^ 45 = omega (arith, small, few, version) in
    let b : n / 2 ^ 44 ≡ m / 2 ^ 44 = omega (arith, a, type) in
    let c : n / 2 ^ 43 ≡ m / 2 ^ 43 = omega (arith, b, secondary) in
    let d : n / 2 ^ 32 ≡ m / 2 ^ 32 = omega (arith, c, apid) in
    let e : n / 2 ^ 30 ≡ m / 2 ^ 30 = omega (arith, d, flags) in
    let f : n / 2 ^ 16 ≡ m / 2 ^ 16 = omega (arith, e, count) in
    omega (arith, f, data_length)

room : (octets : List ℕ) (header : Primary) (payload : List ℕ) → IsPacket octets header payload → 7 ≤ length octets
room octets header payload p =
    let l : length octets - 6 ≡ length payload = sym (length-drop 6 octets) ∙ ap length p.remain in
    omega (arith, l, p.data_length)

-- a header and a data field are those of one packet
pub one_writing : (p q : List ℕ) (header : Primary) (payload : List ℕ) → All IsOctet p → All IsOctet q → IsPacket p header payload → IsPacket q header payload → p ≡ q
one_writing p q header payload a b x y =
    let m = room p header payload x in
    let n = room q header payload y in
    let s : 6 ≤ length p = omega (arith, m) in
    let t : 6 ≤ length q = omega (arith, n) in
    let number : head p ≡ head q = same_fields (head p) (head q) (head_below p s a) (head_below q t b) (x.version ∙ sym y.version) (x.telecommand ∙ sym y.telecommand) (x.secondary ∙ sym y.secondary) (x.apid ∙ sym y.apid) (x.flags ∙ sym y.flags) (x.count ∙ sym y.count) (omega (arith, x.data_length, y.data_length)) in
    let front : take 6 p ≡ take 6 q = (same_digits (take 6 p) (take 6 q) 0 0 (All-take IsOctet 6 p a) (All-take IsOctet 6 q b) (length-take-le 6 p s ∙ sym (length-take-le 6 q t)) number).1 in
    let rest : drop 6 p ≡ drop 6 q = x.remain ∙ sym y.remain in
    sym (take-append-drop 6 p) ∙ (λ i. front i ++ rest i) ∙ take-append-drop 6 q

bit_below : (b : Bool) → bit b < 2
bit_below true = omega arith
bit_below false = omega arith

flags_below : (f : SequenceFlags) → flags_number f < 4
flags_below Continuation = omega arith
flags_below First = omega arith
flags_below Last = omega arith
flags_below Unsegmented = omega arith

-- three words of 16 bits, octet by octet, are one number of 48 bits
words : (i s l : ℕ) → i < 2 ^ 16 → s < 2 ^ 16 → l < 2 ^ 16 →
    (((((0 * 256 + i / 256 % 256) * 256 + i % 256) * 256 + s / 256 % 256) * 256 + s % 256) * 256 + l / 256 % 256) * 256 + l % 256 ≡ i * 2 ^ 32 + s * 2 ^ 16 + l
words i s l x y z =
    let a : i / 256 % 256 * 256 + i % 256 ≡ i = omega (arith, x) in
    let b : s / 256 % 256 * 256 + s % 256 ≡ s = omega (arith, y) in
    let c : l / 256 % 256 * 256 + l % 256 ≡ l = omega (arith, z) in
    omega (arith, a, b, c)

-- octets are the packet whose header's words are their first six
is_packet : (octets : List ℕ) (header : Primary) (payload : List ℕ) → IsHeader header → 1 ≤ length payload → length payload ≤ 65536
    → head octets ≡ identification header * 2 ^ 32 + sequence_control header * 2 ^ 16 + (length payload - 1) → drop 6 octets ≡ payload → IsPacket octets header payload
is_packet octets header payload small some few e rest =
    let t = bit_below header.telecommand in
    let u = bit_below header.secondary in
    let f = flags_below header.flags in
    record {
      version = omega (arith, t, u, small.0, f, small.1, few, e);
      telecommand = omega (arith, t, u, small.0, f, small.1, few, e);
      secondary = omega (arith, t, u, small.0, f, small.1, few, e);
      apid = omega (arith, t, u, small.0, f, small.1, few, e);
      flags = omega (arith, t, u, small.0, f, small.1, few, e);
      count = omega (arith, t, u, small.0, f, small.1, few, e);
      data_length = omega (arith, t, u, small.0, f, small.1, some, few, e);
      remain = rest;
    }

pub written : (header : Primary) (payload : List ℕ) → IsHeader header → 1 ≤ length payload → length payload ≤ 65536 → IsPacket (packet_octets header payload) header payload
written header payload small some few =
    let t = bit_below header.telecommand in
    let u = bit_below header.secondary in
    let f = flags_below header.flags in
    let i : identification header < 2 ^ 16 = omega (arith, t, u, small.0) in
    let s : sequence_control header < 2 ^ 16 = omega (arith, f, small.1) in
    let l : length payload - 1 < 2 ^ 16 = omega (arith, few) in
    is_packet (packet_octets header payload) header payload small some few (words (identification header) (sequence_control header) (length payload - 1) i s l) refl
