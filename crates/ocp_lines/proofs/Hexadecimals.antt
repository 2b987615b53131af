-- Numbers in hexadecimal digits.
use Rattle.std.proofs.Common.{◌≡◌, ◌<◌, ◌≤◌, ◌+◌, ◌*◌, ◌^◌, List, [], ◌∷◌, ℕ, length, refl, sym, ap, ◌∙◌, arith, take, drop, get_or, take-append-drop, Some, None}
use Rattle.std.specs.List.{fold}
use Rattle.std.proofs.lemmas.List.Sums.{fold-append, fold_more}
use Rattle.std.proofs.lemmas.Grind.{pow_more}
use Rattle.std.proofs.Math.Nat.{pow-le-pow_right}
use Rattle.hex.specs.Hex.{hex_digit_value}
use Rattle.ocp_lines.specs.Words.{with_digit, hexadecimal}

-- fewer than sixteen digits leave room for one more
pub has_room : (value i : ℕ) → value < 16 ^ i → i < 16 → value * 16 + 15 < 2 ^ 64
has_room value i lt few =
    let some : 0 < 16 = omega arith in
    let le : i ≤ 15 = omega arith in
    let most : 16 ^ i ≤ 16 ^ 15 = pow-le-pow_right some le in
    omega (arith, most)

pub next_bound : (value next digit i : ℕ) → value < 16 ^ i → digit < 16 → next ≡ value * 16 + digit → next < 16 ^ (i + 1)
next_bound value next digit i lt small e = omega (arith, pow_more 16 i, e, small, lt)

pub one_more : (digits : List ℕ) (i value digit : ℕ) → i < length digits → hexadecimal (take i digits) ≡ Some value → hex_digit_value (get_or digits i 0) ≡ Some digit → hexadecimal (take (i + 1) digits) ≡ Some (value * 16 + digit)
one_more digits i value digit lt e is =
    fold_more (λ value digit. with_digit value (hex_digit_value digit)) (Some 0) digits i 0 lt ∙ rw (e, is) refl

-- no digit after an octet that is no digit makes a number
none_stays : (digits : List ℕ) → fold (λ value digit. with_digit value (hex_digit_value digit)) None digits ≡ None
none_stays [] = refl
none_stays (digit ∷ digits) = none_stays digits

pub no_digit : (digits : List ℕ) (i value : ℕ) → i < length digits → hexadecimal (take i digits) ≡ Some value → hex_digit_value (get_or digits i 0) ≡ None → hexadecimal digits ≡ None
no_digit digits i value lt e is =
    let next : hexadecimal (take (i + 1) digits) ≡ None = fold_more (λ value digit. with_digit value (hex_digit_value digit)) (Some 0) digits i 0 lt ∙ rw (e, is) refl in
    ap hexadecimal (sym (take-append-drop (i + 1) digits))
    ∙ fold-append (λ value digit. with_digit value (hex_digit_value digit)) (Some 0) (take (i + 1) digits) (drop (i + 1) digits)
    ∙ rw next (none_stays (drop (i + 1) digits))
