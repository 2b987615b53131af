-- The table of remainders.
use Rattle.std.proofs.Common.{◌≡◌, ℕ, zero, suc, ◌+◌, ◌*◌, ◌<◌, Bool, true, false, cond, List, [], ◌∷◌, ◌++◌, length, get_or, refl, ap, ◌∙◌, arith}
use Rattle.pus_fields.specs.ErrorControl.{bits, zeros}
use Rattle.pus_fields.specs.Mirror.Register.{shifts}
use Rattle.pus_fields.specs.declared.error_control.remainders.TheConstants.{REMAINDERS}
use Rattle.pus_fields.proofs.Eight.{shifts-more}

same_bit : Bool → Bool → Bool
same_bit true b = b
same_bit false true = false
same_bit false false = true

are_same : List Bool → List Bool → Bool
are_same [] [] = true
are_same [] (b ∷ q) = false
are_same (a ∷ p) [] = false
are_same (a ∷ p) (b ∷ q) = cond (same_bit a b) (are_same p q) false

-- each entry is eight steps from its octet
is_first_row : ℕ → List ℕ → Bool
is_first_row k [] = true
is_first_row k (e ∷ es) = cond (are_same (bits 16 e) (shifts 8 (bits 8 k ++ zeros 8))) (is_first_row (suc k) es) false

-- each entry is eight steps from that of the row before
is_next_row : List ℕ → List ℕ → Bool
is_next_row [] [] = true
is_next_row [] (e ∷ es) = false
is_next_row (d ∷ ds) [] = false
is_next_row (d ∷ ds) (e ∷ es) = cond (are_same (bits 16 e) (shifts 8 (bits 16 d))) (is_next_row ds es) false

are_next_rows : List ℕ → List (List ℕ) → Bool
are_next_rows before [] = true
are_next_rows before (row ∷ rows) = cond (is_next_row before row) (are_next_rows row rows) false

are_rows : List (List ℕ) → Bool
are_rows [] = true
are_rows (row ∷ rows) = cond (is_first_row 0 row) (are_next_rows row rows) false

checked : are_rows REMAINDERS ≡ true
unfolding are_rows are_next_rows is_next_row is_first_row are_same same_bit shifts
checked = refl

-- ---- what the check states about an entry

both : (b c : Bool) → cond b c false ≡ true → (b ≡ true) × (c ≡ true)
both true c h = (refl, h)
both false c h = absurd (cc)

same_bit-is : (a b : Bool) → same_bit a b ≡ true → a ≡ b
unfolding same_bit
same_bit-is true true h = refl
same_bit-is true false h = absurd (cc)
same_bit-is false true h = absurd (cc)
same_bit-is false false h = refl

are_same-is : (p q : List Bool) → are_same p q ≡ true → p ≡ q
unfolding are_same
are_same-is [] [] h = refl
are_same-is [] (b ∷ q) h = absurd (cc)
are_same-is (a ∷ p) [] h = absurd (cc)
are_same-is (a ∷ p) (b ∷ q) h =
    let parts = both (same_bit a b) (are_same p q) h in
    let heads = same_bit-is a b parts.0 in
    let tails = are_same-is p q parts.1 in
    λ i. heads i ∷ tails i

first_at : (k i : ℕ) (es : List ℕ) → is_first_row k es ≡ true → i < length es → bits 16 (get_or es i 0) ≡ shifts 8 (bits 8 (k + i) ++ zeros 8)
unfolding is_first_row
first_at k i [] h lt = absurd (omega (arith, lt))
first_at k zero (e ∷ es) h lt =
    let parts = both (are_same (bits 16 e) (shifts 8 (bits 8 k ++ zeros 8))) (is_first_row (suc k) es) h in
    let here : k ≡ k + 0 = omega arith in
    are_same-is (bits 16 e) (shifts 8 (bits 8 k ++ zeros 8)) parts.0 ∙ ap (λ n. shifts 8 (bits 8 n ++ zeros 8)) here
first_at k (suc i) (e ∷ es) h lt =
    let parts = both (are_same (bits 16 e) (shifts 8 (bits 8 k ++ zeros 8))) (is_first_row (suc k) es) h in
    let here : suc k + i ≡ k + suc i = omega arith in
    first_at (suc k) i es parts.1 (omega (arith, lt)) ∙ ap (λ n. shifts 8 (bits 8 n ++ zeros 8)) here

next_at : (ds es : List ℕ) (i : ℕ) → is_next_row ds es ≡ true → i < length es → bits 16 (get_or es i 0) ≡ shifts 8 (bits 16 (get_or ds i 0))
unfolding is_next_row
next_at ds [] i h lt = absurd (omega (arith, lt))
next_at [] (e ∷ es) i h lt = absurd (cc)
next_at (d ∷ ds) (e ∷ es) zero h lt =
    are_same-is (bits 16 e) (shifts 8 (bits 16 d)) (both (are_same (bits 16 e) (shifts 8 (bits 16 d))) (is_next_row ds es) h).0
next_at (d ∷ ds) (e ∷ es) (suc i) h lt =
    next_at ds es i (both (are_same (bits 16 e) (shifts 8 (bits 16 d))) (is_next_row ds es) h).1 (omega (arith, lt))

length-next : (ds es : List ℕ) → is_next_row ds es ≡ true → length es ≡ length ds
unfolding is_next_row
length-next [] [] h = refl
length-next [] (e ∷ es) h = absurd (cc)
length-next (d ∷ ds) [] h = absurd (cc)
length-next (d ∷ ds) (e ∷ es) h = ap suc (length-next ds es (both (are_same (bits 16 e) (shifts 8 (bits 16 d))) (is_next_row ds es) h).1)

rows_at : (before : List ℕ) (rows : List (List ℕ)) (z i n : ℕ) (p : List Bool) → are_next_rows before rows ≡ true → z < length rows → i < length before → bits 16 (get_or before i 0) ≡ shifts n p → bits 16 (get_or (get_or rows z []) i 0) ≡ shifts (n + 8 + 8 * z) p
unfolding are_next_rows
rows_at before [] z i n p h lt within is = absurd (omega (arith, lt))
rows_at before (row ∷ rows) zero i n p h lt within is =
    let parts = both (is_next_row before row) (are_next_rows row rows) h in
    let more : i < length row = omega (arith, length-next before row parts.0, within) in
    let count : n + 8 ≡ n + 8 + 8 * 0 = omega arith in
    next_at before row i parts.0 more ∙ ap (shifts 8) is ∙ shifts-more n 8 p ∙ ap (λ k. shifts k p) count
rows_at before (row ∷ rows) (suc z) i n p h lt within is =
    let parts = both (is_next_row before row) (are_next_rows row rows) h in
    let more : i < length row = omega (arith, length-next before row parts.0, within) in
    let count : n + 8 + 8 + 8 * z ≡ n + 8 + 8 * suc z = omega arith in
    rows_at row rows z i (n + 8) p parts.1 (omega (arith, lt)) more (next_at before row i parts.0 more ∙ ap (shifts 8) is ∙ shifts-more n 8 p)
    ∙ ap (λ k. shifts k p) count

entry_at : (rows : List (List ℕ)) (z i : ℕ) → are_rows rows ≡ true → z < length rows → i < length (get_or rows 0 []) → bits 16 (get_or (get_or rows z []) i 0) ≡ shifts (8 + 8 * z) (bits 8 i ++ zeros 8)
unfolding are_rows
entry_at [] z i h lt within = absurd (omega (arith, lt))
entry_at (row ∷ rows) zero i h lt within =
    let parts = both (is_first_row 0 row) (are_next_rows row rows) h in
    let here : 0 + i ≡ i = omega arith in
    first_at 0 i row parts.0 within ∙ ap (λ k. shifts 8 (bits 8 k ++ zeros 8)) here
entry_at (row ∷ rows) (suc z) i h lt within =
    let parts = both (is_first_row 0 row) (are_next_rows row rows) h in
    let here : 0 + i ≡ i = omega arith in
    let count : 8 + 8 + 8 * z ≡ 8 + 8 * suc z = omega arith in
    rows_at row rows z i 8 (bits 8 i ++ zeros 8) parts.1 (omega (arith, lt)) within (first_at 0 i row parts.0 within ∙ ap (λ k. shifts 8 (bits 8 k ++ zeros 8)) here)
    ∙ ap (λ k. shifts k (bits 8 i ++ zeros 8)) count

-- each entry is the remainder of its octet
pub remainder_at : (octet behind : ℕ) → behind < 8 → octet < 256 → bits 16 (get_or (get_or REMAINDERS behind []) octet 0) ≡ shifts (8 + 8 * behind) (bits 8 octet ++ zeros 8)
remainder_at octet behind lt small = entry_at REMAINDERS behind octet checked lt small
