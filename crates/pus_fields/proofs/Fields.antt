-- Fields of octets, taken apart and put together.
use Rattle.std.proofs.Common.{Bool, true, false, not, ◌≡◌, ◌<◌, ◌≤◌, ℕ, ◌+◌, ◌-◌, ◌/◌, ◌%◌, ◌^◌, List, [], ◌∷◌, ◌++◌, length, take, drop, get_or, slice_index, slice_range, refl, sym, ap, subst, ◌∙◌, arith, length-append, length-drop}
use Rattle.std.proofs.lemmas.List.{drop-drop, get_or-drop, take-append-drop}
use Rattle.std.proofs.Math.Seq.{drop-append_seam, take-append_seam}
use Rattle.space_packet.specs.declared.primary.Primary.{Primary}
use Rattle.space_packet.specs.Packet.{IsPacket}
use Rattle.byteorder.specs.Endian.{big_bytes, big_number}
use Rattle.pus_fields.specs.Rejections.{last_two}

-- each number of the list is below 256
abbrev pub AreOctets : List ℕ → Type 0
AreOctets xs = (i : ℕ) → slice_index xs i < 256

pub octets-drop : (n : ℕ) (xs : List ℕ) → AreOctets xs → AreOctets (drop n xs)
octets-drop n xs h i = subst (λ (x : ℕ). x < 256) (sym (get_or-drop n xs i 0)) (h (n + i))

pub four : (xs : List ℕ) → 4 ≤ length xs → get_or xs 0 0 ∷ get_or xs 1 0 ∷ get_or xs 2 0 ∷ get_or xs 3 0 ∷ [] ≡ take 4 xs
four [] le = absurd (omega (arith, le))
four (a ∷ []) le = absurd (omega (arith, le))
four (a ∷ b ∷ []) le = absurd (omega (arith, le))
four (a ∷ b ∷ c ∷ []) le = absurd (omega (arith, le))
four (a ∷ b ∷ c ∷ d ∷ xs) le = refl

-- two octets are those of their number
pub two : (ys : List ℕ) → length ys ≡ 2 → AreOctets ys → ys ≡ big_bytes 2 (big_number 2 ys)
two [] e h = absurd (omega (arith, e))
two (a ∷ []) e h = absurd (omega (arith, e))
two (a ∷ b ∷ (c ∷ ys)) e h = absurd (omega (arith, e))
two (a ∷ b ∷ []) e h =
    let p : a < 256 = h 0 in
    let q : b < 256 = h 1 in
    let n : ℕ = big_number 2 (a ∷ b ∷ []) in
    let high : a ≡ n / 256 % 256 = omega arith in
    let low : b ≡ n % 256 = omega arith in
    λ i. high i ∷ low i ∷ []

pub two-lt : (ys : List ℕ) → length ys ≡ 2 → AreOctets ys → big_number 2 ys < 2 ^ 16
two-lt [] e h = absurd (omega (arith, e))
two-lt (a ∷ []) e h = absurd (omega (arith, e))
two-lt (a ∷ b ∷ (c ∷ ys)) e h = absurd (omega (arith, e))
two-lt (a ∷ b ∷ []) e h =
    let p : a < 256 = h 0 in
    let q : b < 256 = h 1 in
    omega arith

-- what follows k octets is its part except the last two octets, and these
pub tail_split : (octets : List ℕ) (k : ℕ) → k + 2 ≤ length octets → AreOctets octets → drop k octets ≡ take (length octets - 2 - k) (drop k octets) ++ big_bytes 2 (last_two octets)
tail_split octets k le h =
    let n = length octets - 2 - k in
    let place : k + n ≡ length octets - 2 = omega (arith, le) in
    let last : drop n (drop k octets) ≡ drop (length octets - 2) octets = drop-drop n k octets ∙ ap (λ (m : ℕ). drop m octets) place in
    let len : length (drop (length octets - 2) octets) ≡ 2 = omega (arith, length-drop (length octets - 2) octets, le) in
    let ends : drop (length octets - 2) octets ≡ big_bytes 2 (last_two octets) = two _ len (octets-drop (length octets - 2) octets h) in
    sym (take-append-drop n (drop k octets)) ∙ ap (λ (ys : List ℕ). take n (drop k octets) ++ ys) (last ∙ ends)

pub last_two-lt : (octets : List ℕ) → 2 ≤ length octets → AreOctets octets → last_two octets < 2 ^ 16
last_two-lt octets le h = two-lt _ (omega (arith, length-drop (length octets - 2) octets, le)) (octets-drop (length octets - 2) octets h)

-- the last two octets are those that were put there
pub last_two-is : (octets front : List ℕ) (c : ℕ) → drop 6 octets ≡ front ++ big_bytes 2 c → c < 2 ^ 16 → last_two octets ≡ c
last_two-is octets front c e lt =
    let size : length octets - 6 ≡ length front + 2 = sym (length-drop 6 octets) ∙ ap length e ∙ length-append front (big_bytes 2 c) in
    let place : 6 + length front ≡ length octets - 2 = omega (arith, size) in
    let last : drop (length octets - 2) octets ≡ big_bytes 2 c = ap (λ (n : ℕ). drop n octets) (sym place) ∙ sym (drop-drop (length front) 6 octets) ∙ ap (drop (length front)) e ∙ drop-append_seam front (big_bytes 2 c) in
    ap (big_number 2) last ∙ omega (arith, lt)

-- what is between the first k octets and the last two
pub between-is : (field payload : List ℕ) (k c : ℕ) → drop k field ≡ payload ++ big_bytes 2 c → slice_range field k (length field - 2) ≡ payload
between-is field payload k c f =
    let inner : length field - k ≡ length payload + 2 = sym (length-drop k field) ∙ ap length f ∙ length-append payload (big_bytes 2 c) in
    let size : length field - 2 - k ≡ length payload = omega (arith, inner) in
    ap (λ (n : ℕ). take n (drop k field)) size ∙ ap (take (length payload)) f ∙ take-append_seam payload (big_bytes 2 c)

-- a packet has a header and a data field
pub packet-length : (octets : List ℕ) (header : Primary) (field : List ℕ) → IsPacket octets header field → 7 ≤ length octets
packet-length octets header field p =
    let inner : length octets - 6 ≡ length field = sym (length-drop 6 octets) ∙ ap length p.remain in
    omega (arith, inner, p.data_length)

-- a data field after some octets is what is there except the last two octets, and these
pub field_split : (octets : List ℕ) (header : Primary) (field : List ℕ) (k : ℕ) → IsPacket octets header field → k + 2 ≤ length field → AreOctets octets
    → drop k field ≡ slice_range field k (length field - 2) ++ big_bytes 2 (last_two octets)
field_split octets header field k packet room h =
    let inner : length octets - 6 ≡ length field = sym (length-drop 6 octets) ∙ ap length packet.remain in
    let rest : drop (6 + k) octets ≡ drop k field = sym (drop-drop k 6 octets) ∙ ap (drop k) packet.remain in
    let size : length octets - 2 - (6 + k) ≡ length field - 2 - k = omega (arith, inner, room) in
    sym rest ∙ tail_split octets (6 + k) (omega (arith, inner, room)) h ∙ (λ i. take (size i) (rest i) ++ big_bytes 2 (last_two octets))

pub not-true : (b : Bool) → true ≡ not b → b ≡ false
not-true true e = absurd cc
not-true false e = refl

pub not-false : (b : Bool) → false ≡ not b → b ≡ true
not-false true e = refl
not-false false e = absurd cc
