-- Numbers in decimal digits.
use Rattle.std.proofs.Common.{◌≡◌, ◌<◌, ◌≤◌, ◌+◌, ◌*◌, ◌-◌, ◌&&◌, List, [], ◌∷◌, ℕ, Bool, true, false, leb, cond, not, length, refl, sym, ap, ◌∙◌, arith, take, drop, get_or, take-append-drop, Some, None}
use Rattle.std.specs.List.{list_all, fold}
use Rattle.std.proofs.lemmas.List.Sums.{fold-append, fold_more}
use Rattle.std.proofs.lemmas.Bool.{lt-leb}
use Rattle.ocp_lines.specs.Words.{is_empty, is_digit, value_of, number_up_to}

fold-rises : (value : ℕ) (digits : List ℕ) → value ≤ fold (λ value digit. value * 10 + (digit - 48)) value digits
fold-rises value [] = omega arith
fold-rises value (digit ∷ digits) = omega (arith, fold-rises (value * 10 + (digit - 48)) digits)

-- more digits spell no smaller number
pub value-rises : (word : List ℕ) (i : ℕ) → value_of (take i word) ≤ value_of word
value-rises word i =
    let all : value_of word ≡ fold (λ value digit. value * 10 + (digit - 48)) (value_of (take i word)) (drop i word) =
    ap value_of (sym (take-append-drop i word)) ∙ fold-append (λ value digit. value * 10 + (digit - 48)) 0 (take i word) (drop i word) in
    omega (arith, all, fold-rises (value_of (take i word)) (drop i word))

pub too_great : (most : ℕ) (word : List ℕ) (i : ℕ) → most < value_of (take i word) → None ≡ number_up_to most word
too_great most word i lt =
    let t : leb (value_of word) most ≡ false = lt-leb _ _ (omega (arith, lt, value-rises word i)) in
    rw t (never (not (is_empty word)) (list_all is_digit word) (value_of word))
  where
    never : (a b : Bool) (n : ℕ) → None ≡ cond ((a && b) && false) (Some n) None
    never true true n = refl
    never true false n = refl
    never false b n = refl

-- one more digit makes the number too great
pub digit_too_great : (most : ℕ) (word : List ℕ) (i value : ℕ) → i < length word → value ≡ value_of (take i word) → most < value * 10 + (get_or word i 0 - 48) → None ≡ number_up_to most word
digit_too_great most word i value lt is more =
    let next : value_of (take (i + 1) word) ≡ value_of (take i word) * 10 + (get_or word i 0 - 48) = fold_more (λ value digit. value * 10 + (digit - 48)) 0 word i 0 lt in
    too_great most word (i + 1) (omega (arith, more, is, next))
