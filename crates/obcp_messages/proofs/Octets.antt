-- Fields that are read are the octets that are written.
use Rattle.std.proofs.Common.{◌≡◌, ◌≤◌, ◌<◌, ◌^◌, ℕ, zero, suc, ◌+◌, ◌-◌, ◌*◌, ◌%◌, Bool, true, false, ◌&&◌, List, [], ◌∷◌, ◌++◌, length, take, drop, get_or, min, refl, sym, ap, ◌∙◌, arith, ⊎_elim}
use Rattle.std.specs.Prelude.{All}
use Rattle.std.specs.List.{flat_map}
use Rattle.std.proofs.lemmas.Bool.{cases_lt}
use Rattle.std.proofs.lemmas.List.{length-take, length-take-le, get_or-take, get_or_past, get_or-drop, length-drop, drop_more}
use Rattle.std.proofs.Math.Seq.{take-add}
use Rattle.std.proofs.lemmas.List.Elements.{All-nil, All-cons, All-get_or}
use Rattle.std.proofs.lemmas.Nat.{be_bytes_2, be_bytes_4, be_bytes_8}
use Rattle.byteorder.specs.Endian.{big_bytes, big_number}
use Rattle.byteorder.specs.Numbers.{big_from-lt}
use Rattle.obcp_messages.specs.Fields.{numbers}

-- the parts of a test that holds
pub both_parts : (a b : Bool) → (a && b) ≡ true → (a ≡ true) × (b ≡ true)
both_parts true true e = (refl, refl)
both_parts true false e = absurd cc
both_parts false b e = absurd cc

-- each number is an octet
abbrev pub AreOctets : List ℕ → Type 0
AreOctets octets = (i : ℕ) → get_or octets i 0 < 256

pub octets_from_all : (octets : List ℕ) → All (λ octet. octet < 2 ^ 8) octets → AreOctets octets
octets_from_all octets h i = ⊎_elim
    (λ below. All-get_or (λ octet. octet < 2 ^ 8) octets i 0 below h)
    (λ above. let e : get_or octets i 0 ≡ 0 = get_or_past octets i 0 above in omega (arith, e))
    (cases_lt i (length octets))

pub octets_taken : (n : ℕ) (octets : List ℕ) → AreOctets octets → AreOctets (take n octets)
octets_taken n octets h i = ⊎_elim
    (λ below. let e : get_or (take n octets) i 0 ≡ get_or octets i 0 = get_or-take n octets i 0 below in omega (arith, e, h i))
    (λ above. let len : length (take n octets) ≡ min n (length octets) = length-take n octets in
    let e : get_or (take n octets) i 0 ≡ 0 = get_or_past (take n octets) i 0 (omega (arith, len)) in omega (arith, e))
    (cases_lt i n)

pub octets_dropped : (n : ℕ) (octets : List ℕ) → AreOctets octets → AreOctets (drop n octets)
octets_dropped n octets h i = let e : get_or (drop n octets) i 0 ≡ get_or octets (n + i) 0 = get_or-drop n octets i 0 in omega (arith, e, h (n + i))

-- a number of two octets, and its octets
pub octets_of_two : (octets : List ℕ) → 2 ≤ length octets → AreOctets octets → big_bytes 2 (big_number 2 octets) ≡ take 2 octets
octets_of_two octets long h =
    let a : get_or (take 2 octets) 0 0 ≡ get_or octets 0 0 = get_or-take 2 octets 0 0 (omega arith) in
    let b : get_or (take 2 octets) 1 0 ≡ get_or octets 1 0 = get_or-take 2 octets 1 0 (omega arith) in
    be_bytes_2 (take 2 octets) (big_number 2 octets) (length-take-le 2 octets long) (octets_taken 2 octets h) (omega (arith, a, b))

pub octets_of_four : (octets : List ℕ) → 4 ≤ length octets → AreOctets octets → big_bytes 4 (big_number 4 octets) ≡ take 4 octets
octets_of_four octets long h =
    let at : (i : ℕ) → i < 4 → get_or (take 4 octets) i 0 ≡ get_or octets i 0 = λ i l. get_or-take 4 octets i 0 l in
    be_bytes_4 (take 4 octets) (big_number 4 octets) (length-take-le 4 octets long) (octets_taken 4 octets h)
    (omega (arith, at 0 (omega arith), at 1 (omega arith), at 2 (omega arith), at 3 (omega arith)))

pub octets_of_eight : (octets : List ℕ) → 8 ≤ length octets → AreOctets octets → big_bytes 8 (big_number 8 octets) ≡ take 8 octets
octets_of_eight octets long h =
    let at : (i : ℕ) → i < 8 → get_or (take 8 octets) i 0 ≡ get_or octets i 0 = λ i l. get_or-take 8 octets i 0 l in
    be_bytes_8 (take 8 octets) (big_number 8 octets) (length-take-le 8 octets long) (octets_taken 8 octets h)
    (omega (arith, at 0 (omega arith), at 1 (omega arith), at 2 (omega arith), at 3 (omega arith), at 4 (omega arith), at 5 (omega arith), at 6 (omega arith), at 7 (omega arith)))

-- two parts, one after the other
pub joined : {a b c d : List ℕ} → a ≡ b → c ≡ d → a ++ c ≡ b ++ d
joined {b = b} {c = c} e f = ap (λ x. x ++ c) e ∙ ap (λ x. b ++ x) f

pub length-numbers : (w n : ℕ) (octets : List ℕ) → length (numbers w n octets) ≡ n
length-numbers w zero octets = refl
length-numbers w (suc n) octets = ap suc (length-numbers w n (drop w octets))

-- words that are read are written as the octets that they were read from
pub octets_of_words : (n : ℕ) (octets : List ℕ) → 8 * n ≤ length octets → AreOctets octets → flat_map (big_bytes 8) (numbers 8 n octets) ≡ take (8 * n) octets
octets_of_words zero octets long h = refl
octets_of_words (suc n) octets long h =
    let len : length (drop 8 octets) ≡ length octets - 8 = length-drop 8 octets in
    let front = octets_of_eight octets (omega arith) h in
    let back = octets_of_words n (drop 8 octets) (omega (arith, len)) (octets_dropped 8 octets h) in
    let split : take (8 + 8 * n) octets ≡ take 8 octets ++ take (8 * n) (drop 8 octets) = take-add 8 (8 * n) octets in
    let size : 8 * suc n ≡ 8 + 8 * n = omega arith in
    joined front back ∙ sym split ∙ ap (λ m. take m octets) (sym size)

pub words_fit : (n : ℕ) (octets : List ℕ) → AreOctets octets → All (λ word. word < 2 ^ 64) (numbers 8 n octets)
words_fit zero octets h = All-nil (λ word. word < 2 ^ 64)
words_fit (suc n) octets h = All-cons (λ word. word < 2 ^ 64) (big_number 8 octets) (numbers 8 n (drop 8 octets)) (big_from-lt 0 8 octets h) (words_fit n (drop 8 octets) (octets_dropped 8 octets h))

-- a number below 256 is its one octet
pub one_octet : (octets : List ℕ) (i : ℕ) → i < length octets → AreOctets octets → big_bytes 1 (get_or octets i 0) ≡ take 1 (drop i octets)
one_octet octets i long h =
    let value : get_or octets i 0 % 256 ≡ get_or octets i 0 = let low = h i in omega (arith, low) in
    let at : drop i octets ≡ get_or octets i 0 ∷ drop (i + 1) octets = drop_more octets i 0 long in
    ap (λ n. n ∷ []) value ∙ sym (ap (take 1) at)
