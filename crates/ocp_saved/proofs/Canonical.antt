-- Octets that are read as a number are those of the number.
use Rattle.std.proofs.Common.{◌≡◌, ℕ, zero, suc, ◌+◌, ◌*◌, ◌/◌, ◌%◌, ◌^◌, ◌<◌, ◌≤◌, Bool, true, false, List, [], ◌∷◌, ◌++◌, length, take, drop, Result, Ok, Err, refl, sym, ap, subst, ◌∙◌, arith, append-nil, length-drop, take-append-drop, length-take-le, take-add}
use Rattle.std.specs.Prelude.{slice_index, nat_lt, if◌then◌else◌}
use Rattle.std.specs.Int.{byte_at, bytes_high_first}
use Rattle.std.specs.List.{AllByRecursion}
use Rattle.std.proofs.lemmas.List.Concat.{flat_map-cons}
use Rattle.std.proofs.lemmas.Bool.Decides.{nat_tests}
use Rattle.std.proofs.Math.Nat.{mod-eq_of_lt, mod-lt, mul-add-mod_self_right, mul-add-div_right, div-eq_of_lt, one-le-pow}
use Rattle.byteorder.specs.Endian.{big_bytes, big_number}
use Rattle.byteorder.specs.Numbers.{big_from-cons, big_from-take, big_from-bytes, big_from-lt, length-bytes_high_first}
use Rattle.ocp_saved.specs.declared.fault.RestoreFault.{RestoreFault}
use Rattle.ocp_saved.specs.declared.fault.RestoreFault.TheVariants as fault
use Rattle.ocp_saved.specs.Canonical.{IsOctet}
use Rattle.ocp_saved.specs.Format.{words_octets}
use Rattle.ocp_saved.specs.Reading.{items_in, number_at, words_at, words_in}

abbrev AreOctets : List ℕ → Type 0
AreOctets xs = AllByRecursion IsOctet xs

each : (xs : List ℕ) → AreOctets xs → (k : ℕ) → slice_index xs k < 256
each [] h k = omega arith
each (x ∷ xs) h zero = h.0
each (x ∷ xs) h (suc k) = each xs h.1 k

first_octets : (n : ℕ) (xs : List ℕ) → AreOctets xs → AreOctets (take n xs)
first_octets zero xs h = tt
first_octets (suc n) [] h = tt
first_octets (suc n) (x ∷ xs) h = (h.0, first_octets n xs h.1)

octet_of : (k x : ℕ) → byte_at k x < 256
octet_of zero x = mod-lt x (omega arith)
octet_of (suc k) x = mod-lt (x / 256 ^ suc k) (omega arith)

octets_of : (n x : ℕ) → AreOctets (bytes_high_first n x)
octets_of zero x = tt
octets_of (suc n) x = (octet_of n x, octets_of n x)

-- the two parts of a number
top : (x r m : ℕ) → zero < m → r < m → (x * m + r) / m ≡ x
top x r m pos h = mul-add-div_right pos x r ∙ ap (λ (k : ℕ). x + k) (div-eq_of_lt h) ∙ omega arith

low : (x r m : ℕ) → r < m → (x * m + r) % m ≡ r
low x r m h = mul-add-mod_self_right x m r ∙ mod-eq_of_lt h

same_octets : (n : ℕ) (xs ys : List ℕ) → length xs ≡ n → length ys ≡ n → AreOctets xs → AreOctets ys → big_number n xs ≡ big_number n ys → xs ≡ ys
same_octets zero [] [] ex ey hx hy e = refl
same_octets zero [] (y ∷ ys) ex ey hx hy e = absurd (omega (arith, ey))
same_octets zero (x ∷ xs) ys ex ey hx hy e = absurd (omega (arith, ex))
same_octets (suc n) [] ys ex ey hx hy e = absurd (omega (arith, ex))
same_octets (suc n) (x ∷ xs) [] ex ey hx hy e = absurd (omega (arith, ey))
same_octets (suc n) (x ∷ xs) (y ∷ ys) ex ey hx hy e =
    let m = 256 ^ n in
    let pos : zero < m = one-le-pow n 256 (omega arith) in
    let r = big_number n xs in
    let s = big_number n ys in
    let hr : r < m = big_from-lt 0 n xs (each xs hx.1) in
    let hs : s < m = big_from-lt 0 n ys (each ys hy.1) in
    let moved_x : x * m + r ≡ big_number (suc n) (x ∷ xs) = ap (λ (k : ℕ). x * m + k) (sym (big_from-cons 0 n x xs)) in
    let moved_y : y * m + s ≡ big_number (suc n) (y ∷ ys) = ap (λ (k : ℕ). y * m + k) (sym (big_from-cons 0 n y ys)) in
    let same : x * m + r ≡ y * m + s = moved_x ∙ e ∙ sym moved_y in
    let one : x ≡ y = sym (top x r m pos hr) ∙ ap (λ (k : ℕ). k / m) same ∙ top y s m pos hs in
    let rest : r ≡ s = sym (low x r m hr) ∙ ap (λ (k : ℕ). k % m) same ∙ low y s m hs in
    joined x y xs ys one (same_octets n xs ys (omega (arith, ex)) (omega (arith, ey)) hx.1 hy.1 rest)
  where
    joined : (a b : ℕ) (us vs : List ℕ) → a ≡ b → us ≡ vs → a ∷ us ≡ b ∷ vs
    joined a b us vs p q = cc

octets_again : (n : ℕ) (xs : List ℕ) → n ≤ length xs → AreOctets xs → big_bytes n (big_number n xs) ≡ take n xs
octets_again n xs le h =
    let x = big_number n xs in
    let fits : x < 256 ^ n = big_from-lt 0 n xs (each xs h) in
    let back : big_number n (big_bytes n x) ≡ x = ap (big_number n) (sym (append-nil (big_bytes n x))) ∙ big_from-bytes n x [] ∙ mod-eq_of_lt fits in
    same_octets n _ _ (length-bytes_high_first n x) (length-take-le n xs le) (octets_of n x) (first_octets n xs h) (back ∙ sym (big_from-take 0 n n xs (omega arith)))

abbrev Read : Type 0
Read = Result (ℕ × List ℕ) RestoreFault

abbrev number_of : Read → ℕ
number_of (Ok p) = p.0
number_of (Err e) = 0

abbrev rest_of : Read → List ℕ
rest_of (Ok p) = p.1
rest_of (Err e) = []

abbrev IsRefused : Read → Type 0
IsRefused (Ok p) = ⊥
IsRefused (Err e) = Unit {0}

abbrev read_if : Bool → ℕ → List ℕ → Read
read_if t n octets = if t then Err fault.Short else Ok (big_number n octets, drop n octets)

by_test : (t : Bool) (n x : ℕ) (octets rest : List ℕ) → nat_lt (length octets) n ≡ t → AreOctets octets → ◌≡◌ {A = Read} (read_if t n octets) (Ok (x, rest)) → octets ≡ big_bytes n x ++ rest
by_test true n x octets rest is h e = absurd (subst IsRefused e tt)
by_test false n x octets rest is h e =
    let le : n ≤ length octets = grind (arith, nat_tests, is) in
    let number : big_number n octets ≡ x = ap number_of e in
    let after : drop n octets ≡ rest = ap rest_of e in
    sym (take-append-drop n octets)
    ∙ ap (λ (l : List ℕ). l ++ drop n octets) (sym (octets_again n octets le h))
    ∙ ap (λ (k : ℕ). big_bytes n k ++ drop n octets) number
    ∙ ap (λ (l : List ℕ). big_bytes n x ++ l) after

pub number_is : (n x : ℕ) (octets rest : List ℕ) → AllByRecursion IsOctet octets → number_at n octets ≡ Ok (x, rest) → octets ≡ big_bytes n x ++ rest
number_is n x octets rest h e = by_test (nat_lt (length octets) n) n x octets rest refl h e

-- ---- words

last_octets : (n : ℕ) (xs : List ℕ) → AreOctets xs → AreOctets (drop n xs)
last_octets zero xs h = h
last_octets (suc n) [] h = tt
last_octets (suc n) (x ∷ xs) h = last_octets n xs h.1

words_again : (n : ℕ) (xs : List ℕ) → 8 * n ≤ length xs → AreOctets xs → words_octets (words_in n xs) ≡ take (8 * n) xs
unfolding items_in
words_again zero xs le h = refl
words_again (suc n) xs le h =
    let k : 8 * suc n ≡ 8 + 8 * n = omega arith in
    let rest : words_octets (words_in n (drop 8 xs)) ≡ take (8 * n) (drop 8 xs) = words_again n (drop 8 xs) (omega (arith, le, length-drop 8 xs)) (last_octets 8 xs h) in
    flat_map-cons (big_bytes 8) (big_number 8 xs) (words_in n (drop 8 xs))
    ∙ ap (λ (l : List ℕ). l ++ words_octets (words_in n (drop 8 xs))) (octets_again 8 xs (omega (arith, le)) h)
    ∙ ap (λ (l : List ℕ). take 8 xs ++ l) rest
    ∙ sym (take-add 8 (8 * n) xs)
    ∙ ap (λ (m : ℕ). take m xs) (sym k)

abbrev Words : Type 0
Words = Result (List ℕ × List ℕ) RestoreFault

abbrev words_of : Words → List ℕ
words_of (Ok p) = p.0
words_of (Err e) = []

abbrev after_words : Words → List ℕ
after_words (Ok p) = p.1
after_words (Err e) = []

abbrev AreRefused : Words → Type 0
AreRefused (Ok p) = ⊥
AreRefused (Err e) = Unit {0}

abbrev words_if : Bool → ℕ → List ℕ → Words
words_if t n octets = if t then Err fault.Short else Ok (words_in n octets, drop (8 * n) octets)

words_by_test : (t : Bool) (n : ℕ) (words octets rest : List ℕ) → nat_lt (length octets) (8 * n) ≡ t → AreOctets octets → ◌≡◌ {A = Words} (words_if t n octets) (Ok (words, rest)) → octets ≡ words_octets words ++ rest
words_by_test true n words octets rest is h e = absurd (subst AreRefused e tt)
words_by_test false n words octets rest is h e =
    let le : 8 * n ≤ length octets = grind (arith, nat_tests, is) in
    let these : words_in n octets ≡ words = ap words_of e in
    let after : drop (8 * n) octets ≡ rest = ap after_words e in
    sym (take-append-drop (8 * n) octets)
    ∙ ap (λ (l : List ℕ). l ++ drop (8 * n) octets) (sym (words_again n octets le h))
    ∙ ap (λ (l : List ℕ). words_octets l ++ drop (8 * n) octets) these
    ∙ ap (λ (l : List ℕ). words_octets words ++ l) after

pub words_are : (n : ℕ) (words octets rest : List ℕ) → AllByRecursion IsOctet octets → words_at n octets ≡ Ok (words, rest) → octets ≡ words_octets words ++ rest
words_are n words octets rest h e = words_by_test (nat_lt (length octets) (8 * n)) n words octets rest refl h e
