-- What `request_of` answers is what `IsRequestData` states, both ways.
use Rattle.std.proofs.Common.{◌≡◌, ◌≤◌, ◌<◌, ◌^◌, ℕ, ◌+◌, ◌-◌, ◌*◌, List, [], ◌∷◌, ◌++◌, length, take, drop, get_or, true, ◌&&◌, Result, Ok, Err, refl, sym, ap, ◌∙◌, arith}
use Rattle.std.specs.Prelude.{All, IfOk, ◌==◌, nat_le}
use Rattle.std.specs.Cmp.Derive.{both_true}
use Rattle.std.specs.List.{flat_map}
use Rattle.std.proofs.lemmas.Bool.{cond_both, cond-true, eq-eqb, eqb-true, le-leb, leb-true}
use Rattle.std.proofs.lemmas.List.Elements.{All-head, All-tail}
use Rattle.std.proofs.lemmas.Result.{IfOk-weaker}
use Rattle.std.proofs.Math.Seq.{take-add}
use Rattle.std.proofs.lemmas.Bool.Decides.{nat_tests}
use Rattle.std.proofs.lemmas.List.{take_all, take-append-drop, length-drop, drop-drop, nil_from_length}
use Rattle.byteorder.specs.Endian.{big_bytes, big_number}
use Rattle.byteorder.specs.Numbers.{big_from-lt, big_number-reads_back}
use Rattle.obcp_messages.specs.Fields.{numbers}
use Rattle.obcp_messages.specs.Request.{IsRequest, IsRequestData, request_data, subtype_of}
use Rattle.obcp_messages.specs.Reading.{with_id, with_step, is_counted, with_octets, with_budget, with_words, activation_in, request_in, request_of}
use Rattle.obcp_messages.specs.declared.request.Request.{Request}
use Rattle.obcp_messages.specs.declared.request.Request.TheVariants.{Load, Unload, Activate, Stop, Suspend, Resume, Communicate, Status, Abort}
use Rattle.obcp_types.specs.declared.failure.RequestFault.{RequestFault}
use Rattle.obcp_types.specs.declared.failure.RequestFault.TheVariants.{Layout}
use Rattle.ocp_profile.specs.declared.profile.Profile.{Profile}
use Rattle.ocp_profile.specs.declared.profile.Profile.TheVariants.{One, Two}
use Rattle.obcp_messages.proofs.Octets.{AreOctets, both_parts, octets_dropped, octets_of_two, octets_of_four, octets_of_words, length-numbers, joined, one_octet, words_fit}

-- ---- what is read is laid out so

-- an Ok has the property, whatever an Err is
abbrev pub Reads : (Request → Type 0) → Result Request RequestFault → Type 0
Reads P r = IfOk r P

id_read : (make : ℕ → Request) (octets : List ℕ) (P : Request → Type 0) →
    (length octets ≡ 2 → octets ≡ big_bytes 2 (big_number 2 octets) → big_number 2 octets < 2 ^ 16 → P (make (big_number 2 octets))) →
    AreOctets octets → Reads P (with_id make octets)
id_read make octets P holds h =
    cond_both (length octets == 2) (Ok (make (big_number 2 octets))) (Err Layout) (Reads P)
    (λ e. let long : length octets ≡ 2 = grind (arith, nat_tests) in
    let same : octets ≡ big_bytes 2 (big_number 2 octets) = sym (octets_of_two octets (omega arith) h ∙ take_all 2 octets (omega arith)) in
    holds long same (big_from-lt 0 2 octets h))
    (λ _. tt)

step_read : (make : ℕ → ℕ → Request) (octets : List ℕ) (P : Request → Type 0) →
    (octets ≡ big_bytes 2 (big_number 2 octets) ++ big_bytes 2 (big_number 2 (drop 2 octets)) → big_number 2 octets < 2 ^ 16 → big_number 2 (drop 2 octets) < 2 ^ 16 → P (make (big_number 2 octets) (big_number 2 (drop 2 octets)))) →
    AreOctets octets → Reads P (with_step make octets)
step_read make octets P holds h =
    cond_both (length octets == 4) (Ok (make (big_number 2 octets) (big_number 2 (drop 2 octets)))) (Err Layout) (Reads P)
    (λ e. let long : length octets ≡ 4 = grind (arith, nat_tests) in
    let len : length (drop 2 octets) ≡ length octets - 2 = length-drop 2 octets in
    let rest = octets_dropped 2 octets h in
    let front : big_bytes 2 (big_number 2 octets) ≡ take 2 octets = octets_of_two octets (omega arith) h in
    let back : big_bytes 2 (big_number 2 (drop 2 octets)) ≡ drop 2 octets = octets_of_two (drop 2 octets) (omega (arith, len)) rest ∙ take_all 2 (drop 2 octets) (omega (arith, len)) in
    let same : octets ≡ big_bytes 2 (big_number 2 octets) ++ big_bytes 2 (big_number 2 (drop 2 octets)) = sym (joined front back ∙ take-append-drop 2 octets) in
    holds same (big_from-lt 0 2 octets h) (big_from-lt 0 2 (drop 2 octets) rest))
    (λ _. tt)

-- after n octets a number and that number of octets
counted_read : (n : ℕ) (octets : List ℕ) → is_counted n octets ≡ true → AreOctets octets →
    (big_bytes 2 (length (drop (n + 2) octets)) ++ drop (n + 2) octets ≡ drop n octets) × (length octets ≡ n + 2 + length (drop (n + 2) octets))
counted_read n octets e h =
    let test = both_parts (nat_le (n + 2) (length octets)) (length octets == n + 2 + big_number 2 (drop n octets)) e in
    let long : n + 2 ≤ length octets = leb-true (n + 2) (length octets) test.0 in
    let size : length octets ≡ n + 2 + big_number 2 (drop n octets) = eqb-true (length octets) (n + 2 + big_number 2 (drop n octets)) test.1 in
    let len : length (drop n octets) ≡ length octets - n = length-drop n octets in
    let rest_len : length (drop (n + 2) octets) ≡ length octets - (n + 2) = length-drop (n + 2) octets in
    let number : big_number 2 (drop n octets) ≡ length (drop (n + 2) octets) = omega (arith, size, rest_len) in
    let front : big_bytes 2 (length (drop (n + 2) octets)) ≡ take 2 (drop n octets) =
    ap (big_bytes 2) (sym number) ∙ octets_of_two (drop n octets) (omega (arith, len)) (octets_dropped n octets h) in
    let back : drop (n + 2) octets ≡ drop 2 (drop n octets) = sym (drop-drop 2 n octets) in
    (joined front back ∙ take-append-drop 2 (drop n octets), omega (arith, size, number))

octets_read : (most : ℕ) (make : ℕ → List ℕ → Request) (octets : List ℕ) (P : Request → Type 0) →
    (octets ≡ big_bytes 2 (big_number 2 octets) ++ big_bytes 2 (length (drop 4 octets)) ++ drop 4 octets → big_number 2 octets < 2 ^ 16 → length (drop 4 octets) ≤ most → P (make (big_number 2 octets) (drop 4 octets))) →
    AreOctets octets → Reads P (with_octets most make octets)
octets_read most make octets P holds h =
    cond_both (is_counted 2 octets && nat_le (length octets) (4 + most)) (Ok (make (big_number 2 octets) (drop 4 octets))) (Err Layout) (Reads P)
    (λ e. let is : (is_counted 2 octets ≡ true) × (nat_le (length octets) (4 + most) ≡ true) = both_parts (is_counted 2 octets) (nat_le (length octets) (4 + most)) e in
    let counted = counted_read 2 octets is.0 h in
    let front : big_bytes 2 (big_number 2 octets) ≡ take 2 octets = octets_of_two octets (omega (arith, counted.1)) h in
    let same : octets ≡ big_bytes 2 (big_number 2 octets) ++ big_bytes 2 (length (drop 4 octets)) ++ drop 4 octets = sym (joined front counted.0 ∙ take-append-drop 2 octets) in
    let fits : length (drop 4 octets) ≤ most = let low = leb-true (length octets) (4 + most) is.1 in omega (arith, counted.1, low) in
    holds same (big_from-lt 0 2 octets h) fits)
    (λ _. tt)

-- an identifier, a budget, a number and that number of octets
budget_read : (octets : List ℕ) (P : Request → Type 0) →
    (octets ≡ big_bytes 2 (big_number 2 octets) ++ big_bytes 4 (big_number 4 (drop 2 octets)) ++ big_bytes 2 (length (drop 8 octets)) ++ drop 8 octets →
    big_number 2 octets < 2 ^ 16 → big_number 4 (drop 2 octets) < 2 ^ 32 → length (drop 8 octets) ≤ 256 →
    P (Activate (big_number 2 octets) (big_number 4 (drop 2 octets)) (drop 8 octets))) →
    AreOctets octets → Reads P (with_budget octets)
budget_read octets P holds h =
    cond_both (is_counted 6 octets && nat_le (length octets) 264) (Ok (Activate (big_number 2 octets) (big_number 4 (drop 2 octets)) (drop 8 octets))) (Err Layout) (Reads P)
    (λ e. let is : (is_counted 6 octets ≡ true) × (nat_le (length octets) 264 ≡ true) = both_parts (is_counted 6 octets) (nat_le (length octets) 264) e in
    let counted = counted_read 6 octets is.0 h in
    let rest = octets_dropped 2 octets h in
    let len : length (drop 2 octets) ≡ length octets - 2 = length-drop 2 octets in
    let front : big_bytes 2 (big_number 2 octets) ≡ take 2 octets = octets_of_two octets (omega (arith, counted.1)) h in
    let middle : big_bytes 4 (big_number 4 (drop 2 octets)) ≡ take 4 (drop 2 octets) = octets_of_four (drop 2 octets) (omega (arith, counted.1, len)) rest in
    let back : big_bytes 2 (length (drop 8 octets)) ++ drop 8 octets ≡ drop 4 (drop 2 octets) = counted.0 ∙ sym (drop-drop 4 2 octets) in
    let behind : big_bytes 4 (big_number 4 (drop 2 octets)) ++ big_bytes 2 (length (drop 8 octets)) ++ drop 8 octets ≡ drop 2 octets = joined middle back ∙ take-append-drop 4 (drop 2 octets) in
    let same : octets ≡ big_bytes 2 (big_number 2 octets) ++ big_bytes 4 (big_number 4 (drop 2 octets)) ++ big_bytes 2 (length (drop 8 octets)) ++ drop 8 octets = sym (joined front behind ∙ take-append-drop 2 octets) in
    let fits : length (drop 8 octets) ≤ 256 = let low = leb-true (length octets) 264 is.1 in omega (arith, counted.1, low) in
    holds same (big_from-lt 0 2 octets h) (big_from-lt 0 4 (drop 2 octets) rest) fits)
    (λ _. tt)

activation_read : (profile : Profile) (subtype : ℕ) (octets : List ℕ) → subtype ≡ 3 → AreOctets octets → Reads (IsRequestData profile 18 subtype octets) (activation_in profile octets)
activation_read One subtype octets e h =
    octets_read 256 (λ id arguments. Activate id 0 arguments) octets (IsRequestData One 18 subtype octets)
    (λ same id most. record { of_service = refl; of_subtype = e; in_range = (id, refl, most); fields = same }) h
activation_read Two subtype octets e h =
    budget_read octets (IsRequestData Two 18 subtype octets)
    (λ same id budget most. record { of_service = refl; of_subtype = e; in_range = (id, budget, most); fields = same }) h

words_read : (octets : List ℕ) (P : Request → Type 0) →
    ((id : ℕ) (words : List ℕ) → octets ≡ big_bytes 2 id ++ big_bytes 1 (length words) ++ flat_map (big_bytes 8) words → id < 2 ^ 16 → 1 ≤ length words → length words ≤ 8 → All (λ word. word < 2 ^ 64) words → P (Communicate id words)) →
    AreOctets octets → Reads P (with_words octets)
words_read octets P holds h =
    let count : ℕ = get_or octets 2 0 in
    let words : List ℕ = numbers 8 count (drop 3 octets) in
    cond_both (nat_le 3 (length octets) && (length octets == 3 + 8 * count) && nat_le 1 count && nat_le count 8) (Ok (Communicate (big_number 2 octets) words)) (Err Layout) (Reads P)
    (λ e. let least = both_parts (nat_le 3 (length octets) && (length octets == 3 + 8 * count) && nat_le 1 count) (nat_le count 8) e in
    let some = both_parts (nat_le 3 (length octets) && (length octets == 3 + 8 * count)) (nat_le 1 count) least.0 in
    let long = both_parts (nat_le 3 (length octets)) (length octets == 3 + 8 * count) some.0 in
    let whole : length octets ≡ 3 + 8 * count = eqb-true (length octets) (3 + 8 * count) long.1 in
    let len : length words ≡ count = length-numbers 8 count (drop 3 octets) in
    let rest_len : length (drop 3 octets) ≡ length octets - 3 = length-drop 3 octets in
    let front : big_bytes 2 (big_number 2 octets) ≡ take 2 octets = octets_of_two octets (omega arith) h in
    let middle : big_bytes 1 (length words) ≡ take 1 (drop 2 octets) = ap (big_bytes 1) len ∙ one_octet octets 2 (omega arith) h in
    let back : flat_map (big_bytes 8) words ≡ drop 3 octets =
    octets_of_words count (drop 3 octets) (omega (arith, rest_len)) (octets_dropped 3 octets h) ∙ take_all (8 * count) (drop 3 octets) (omega (arith, rest_len)) in
    let same : octets ≡ big_bytes 2 (big_number 2 octets) ++ big_bytes 1 (length words) ++ flat_map (big_bytes 8) words =
    sym (joined (joined front middle ∙ sym (take-add 2 1 octets)) back ∙ take-append-drop 3 octets) in
    let low = leb-true 1 count some.1 in
    let high = leb-true count 8 least.1 in
    holds (big_number 2 octets) words same (big_from-lt 0 2 octets h) (omega (arith, len, low)) (omega (arith, len, high)) (words_fit count (drop 3 octets) (octets_dropped 3 octets h)))
    (λ _. tt)

-- the data that are read as a request are its fields
read_in : (profile : Profile) (subtype : ℕ) (octets : List ℕ) → AreOctets octets → IfOk (request_in profile subtype octets) (IsRequestData profile 18 subtype octets)
read_in profile subtype octets h =
    let P : Request → Type 0 = λ request. IsRequestData profile 18 subtype octets request in
    cond_both (subtype == 1) _ _ (Reads P)
    (λ e. octets_read 65535 Load octets P (λ same id most. record { of_service = refl; of_subtype = eqb-true subtype 1 e; in_range = (id, omega arith); fields = same }) h)
    (λ _. cond_both (subtype == 2) _ _ (Reads P)
    (λ e. id_read Unload octets P (λ _ same id. record { of_service = refl; of_subtype = eqb-true subtype 2 e; in_range = id; fields = same }) h)
    (λ _. cond_both (subtype == 3) _ _ (Reads P)
    (λ e. activation_read profile subtype octets (eqb-true subtype 3 e) h)
    (λ _. cond_both (subtype == 4) _ _ (Reads P)
    (λ e. step_read Stop octets P (λ same id step. record { of_service = refl; of_subtype = eqb-true subtype 4 e; in_range = (id, step); fields = same }) h)
    (λ _. cond_both (subtype == 5) _ _ (Reads P)
    (λ e. step_read Suspend octets P (λ same id step. record { of_service = refl; of_subtype = eqb-true subtype 5 e; in_range = (id, step); fields = same }) h)
    (λ _. cond_both (subtype == 6) _ _ (Reads P)
    (λ e. id_read Resume octets P (λ _ same id. record { of_service = refl; of_subtype = eqb-true subtype 6 e; in_range = id; fields = same }) h)
    (λ _. cond_both (subtype == 7) _ _ (Reads P)
    (λ e. words_read octets P (λ id words same fits some most words_fit. record { of_service = refl; of_subtype = eqb-true subtype 7 e; in_range = (fits, some, most, words_fit); fields = same }) h)
    (λ _. cond_both (subtype == 8) _ _ (Reads P)
    (λ e. cond_both (length octets == 0) _ _ (Reads P)
    (λ none. record { of_service = refl; of_subtype = eqb-true subtype 8 e; in_range = tt; fields = nil_from_length octets (eqb-true (length octets) 0 none) })
    (λ _. tt))
    (λ _. cond_both (subtype == 12) _ _ (Reads P)
    (λ e. id_read Abort octets P (λ _ same id. record { of_service = refl; of_subtype = eqb-true subtype 12 e; in_range = id; fields = same }) h)
    (λ _. tt)))))))))

pub request_is_read : (profile : Profile) (service subtype : ℕ) (octets : List ℕ) → AreOctets octets → IfOk (request_of profile service subtype octets) (IsRequestData profile service subtype octets)
request_is_read profile service subtype octets h =
    let P : Request → Type 0 = λ request. IsRequestData profile service subtype octets request in
    cond_both (service == 18) _ _ (Reads P)
    (λ e. IfOk-weaker (request_in profile subtype octets) (IsRequestData profile 18 subtype octets) P
    (λ request p. record { of_service = eqb-true service 18 e; of_subtype = p.of_subtype; in_range = p.in_range; fields = p.fields })
    (read_in profile subtype octets h))
    (λ _. tt)

-- ---- what is laid out so is read

id_written : (make : ℕ → Request) (id : ℕ) → id < 2 ^ 16 → with_id make (big_bytes 2 id) ≡ Ok (make id)
id_written make id h = ap (λ n. Ok (make n)) (big_number-reads_back 2 id [] h)

step_written : (make : ℕ → ℕ → Request) (id step : ℕ) → id < 2 ^ 16 → step < 2 ^ 16 → with_step make (big_bytes 2 id ++ big_bytes 2 step) ≡ Ok (make id step)
step_written make id step h k =
    ap (λ n. Ok (make n (big_number 2 (big_bytes 2 step)))) (big_number-reads_back 2 id (big_bytes 2 step) h)
    ∙ ap (λ n. Ok (make id n)) (big_number-reads_back 2 step [] k)

octets_written : (most : ℕ) (make : ℕ → List ℕ → Request) (id : ℕ) (code : List ℕ) → id < 2 ^ 16 → length code < 2 ^ 16 → length code ≤ most →
    with_octets most make (big_bytes 2 id ++ big_bytes 2 (length code) ++ code) ≡ Ok (make id code)
octets_written most make id code h k fits =
    let octets : List ℕ = big_bytes 2 id ++ big_bytes 2 (length code) ++ code in
    let number : big_number 2 octets ≡ id = big_number-reads_back 2 id (big_bytes 2 (length code) ++ code) h in
    let size : big_number 2 (drop 2 octets) ≡ length code = big_number-reads_back 2 (length code) code k in
    let counted : is_counted 2 octets ≡ true = both_true (le-leb 4 (length octets) (omega arith)) (eq-eqb (length octets) (4 + big_number 2 (drop 2 octets)) (omega (arith, size))) in
    let test : (is_counted 2 octets && nat_le (length octets) (4 + most)) ≡ true = both_true counted (le-leb (length octets) (4 + most) (omega arith)) in
    cond-true _ _ _ test ∙ ap (λ n. Ok (make n code)) number

-- an activation, with its budget if the profile has one
activation_written : (profile : Profile) (id budget : ℕ) (arguments : List ℕ) → IsRequest profile (Activate id budget arguments) →
    activation_in profile (request_data profile (Activate id budget arguments)) ≡ Ok (Activate id budget arguments)
activation_written One id budget arguments h =
    octets_written 256 (λ n code. Activate n 0 code) id arguments h.0 (omega (arith, h.2)) h.2
    ∙ ap (λ n. Ok (Activate id n arguments)) (sym h.1)
activation_written Two id budget arguments h =
    let octets : List ℕ = big_bytes 2 id ++ big_bytes 4 budget ++ big_bytes 2 (length arguments) ++ arguments in
    let number : big_number 2 octets ≡ id = big_number-reads_back 2 id (big_bytes 4 budget ++ big_bytes 2 (length arguments) ++ arguments) h.0 in
    let left : big_number 4 (drop 2 octets) ≡ budget = big_number-reads_back 4 budget (big_bytes 2 (length arguments) ++ arguments) h.1 in
    let size : big_number 2 (drop 6 octets) ≡ length arguments = big_number-reads_back 2 (length arguments) arguments (omega (arith, h.2)) in
    let counted : is_counted 6 octets ≡ true = both_true (le-leb 8 (length octets) (omega arith)) (eq-eqb (length octets) (8 + big_number 2 (drop 6 octets)) (omega (arith, size))) in
    let test : (is_counted 6 octets && nat_le (length octets) 264) ≡ true = both_true counted (le-leb (length octets) 264 (omega (arith, h.2))) in
    cond-true _ _ _ test ∙ ap (λ n. Ok (Activate n (big_number 4 (drop 2 octets)) arguments)) number ∙ ap (λ n. Ok (Activate id n arguments)) left

words_back : (words : List ℕ) → All (λ word. word < 2 ^ 64) words → numbers 8 (length words) (flat_map (big_bytes 8) words) ≡ words
words_back [] h = refl
words_back (word ∷ words) h =
    let first : big_number 8 (big_bytes 8 word ++ flat_map (big_bytes 8) words) ≡ word =
    big_number-reads_back 8 word (flat_map (big_bytes 8) words) (All-head (λ word. word < 2 ^ 64) word words h) in
    let rest = words_back words (All-tail (λ word. word < 2 ^ 64) word words h) in
    ap (λ n. n ∷ numbers 8 (length words) (flat_map (big_bytes 8) words)) first ∙ ap (λ ws. word ∷ ws) rest

length-words : (words : List ℕ) → length (flat_map (big_bytes 8) words) ≡ 8 * length words
length-words [] = refl
length-words (word ∷ words) = let rest = length-words words in omega (arith, rest)

words_written : (id : ℕ) (words : List ℕ) → id < 2 ^ 16 → 1 ≤ length words → length words ≤ 8 → All (λ word. word < 2 ^ 64) words →
    with_words (big_bytes 2 id ++ big_bytes 1 (length words) ++ flat_map (big_bytes 8) words) ≡ Ok (Communicate id words)
words_written id words h some most fits =
    let octets : List ℕ = big_bytes 2 id ++ big_bytes 1 (length words) ++ flat_map (big_bytes 8) words in
    let number : big_number 2 octets ≡ id = big_number-reads_back 2 id (big_bytes 1 (length words) ++ flat_map (big_bytes 8) words) h in
    let count : get_or octets 2 0 ≡ length words = omega arith in
    let size = length-words words in
    let test : (nat_le 3 (length octets) && (length octets == 3 + 8 * get_or octets 2 0) && nat_le 1 (get_or octets 2 0) && nat_le (get_or octets 2 0) 8) ≡ true =
    both_true (both_true (both_true (le-leb 3 (length octets) (omega arith))
    (eq-eqb (length octets) (3 + 8 * get_or octets 2 0) (omega (arith, count, size))))
    (le-leb 1 (get_or octets 2 0) (omega (arith, count)))) (le-leb (get_or octets 2 0) 8 (omega (arith, count))) in
    cond-true _ _ _ test
    ∙ ap (λ n. Ok (Communicate n (numbers 8 (get_or octets 2 0) (drop 3 octets)))) number
    ∙ ap (λ n. Ok (Communicate id (numbers 8 n (drop 3 octets)))) count
    ∙ ap (λ ws. Ok (Communicate id ws)) (words_back words fits)

pub data_is_read : (profile : Profile) (request : Request) → IsRequest profile request → request_in profile (subtype_of request) (request_data profile request) ≡ Ok request
data_is_read profile (Load id code) h = octets_written 65535 Load id code h.0 (omega arith) h.1
data_is_read profile (Unload id) h = id_written Unload id h
data_is_read profile (Activate id budget arguments) h = activation_written profile id budget arguments h
data_is_read profile (Stop id step) h = step_written Stop id step h.0 h.1
data_is_read profile (Suspend id step) h = step_written Suspend id step h.0 h.1
data_is_read profile (Resume id) h = id_written Resume id h
data_is_read profile (Communicate id words) h = words_written id words h.0 h.1 h.2 h.3
data_is_read profile Status h = refl
data_is_read profile (Abort id) h = id_written Abort id h

pub only_request : (profile : Profile) (service subtype : ℕ) (octets : List ℕ) (request : Request) → IsRequestData profile service subtype octets request → request_of profile service subtype octets ≡ Ok request
only_request profile service subtype octets request p =
    ap (λ n. request_of profile n subtype octets) p.of_service ∙ ap (λ n. request_in profile n octets) p.of_subtype
    ∙ ap (request_in profile (subtype_of request)) p.fields ∙ data_is_read profile request p.in_range
