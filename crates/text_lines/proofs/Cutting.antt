-- A text's first line.
use Rattle.std.proofs.Common.{◌≡◌, ◌≢◌, ◌<◌, ◌-◌, ◌⊎◌, inl, inr, ℕ, zero, suc, List, [], ◌∷◌, ◌++◌, length, take, drop, get_or, map, true, false, eqb, refl, ap, arith, length-drop}
use Rattle.std.proofs.lemmas.Bool.Decides.{eqb_tells}
use Rattle.std.proofs.lemmas.Grind.{common_steps}
use Rattle.std.specs.List.{All}
use Rattle.std.specs.Str.Lines.{strip_carriage_return}
use Rattle.text_lines.specs.Lines.{Ended, Open, onto, lines_of, text_of, line_texts}

-- what is left of a text after an octet, and after all of them
pub whole_drop : (text : List ℕ) (i : ℕ) → take (length text - i) (drop i text) ≡ drop i text
whole_drop text i = grind (arith, common_steps, length-drop i text)

pub none_left : (text : List ℕ) → take (length text - length text) (drop (length text) text) ≡ []
none_left text = grind (arith, common_steps, length-drop (length text) text)

pub ended_piece : (text : List ℕ) (i : ℕ) → i < length text → get_or text i 0 ≡ 10 → ((k : ℕ) → k < i → eqb (get_or text k 0) 10 ≡ false) → lines_of text ≡ Ended (take i text) ∷ lines_of (drop (suc i) text)
ended_piece [] i lt is all = absurd (omega arith)
ended_piece (o ∷ text) zero lt is all = rw is refl
ended_piece (o ∷ text) (suc i) lt is all =
    let first : eqb o 10 ≡ false = all 0 (omega arith) in
    rw first (ap (onto o) (ended_piece text i (omega arith) is (λ k h. all (suc k) (omega arith))))

pub open_piece : (text : List ℕ) → text ≢ [] → ((k : ℕ) → k < length text → eqb (get_or text k 0) 10 ≡ false) → lines_of text ≡ Open text ∷ []
open_piece [] some all = absurd (some refl)
open_piece (o ∷ []) some all = let first : eqb o 10 ≡ false = all 0 (omega arith) in rw first refl
open_piece (o ∷ p ∷ text) some all =
    let first : eqb o 10 ≡ false = all 0 (omega arith) in
    let rest = open_piece (p ∷ text) (λ e. absurd cc) (λ k h. all (suc k) (omega arith)) in
    rw first (ap (onto o) rest)

pub ended_line : (text : List ℕ) (i : ℕ) → i < length text → get_or text i 0 ≡ 10 → ((k : ℕ) → k < i → eqb (get_or text k 0) 10 ≡ false) → line_texts text ≡ strip_carriage_return (take i text) ∷ line_texts (drop (suc i) text)
ended_line text i lt is all = ap (map text_of) (ended_piece text i lt is all)

pub open_line : (text : List ℕ) → text ≢ [] → ((k : ℕ) → k < length text → eqb (get_or text k 0) 10 ≡ false) → line_texts text ≡ text ∷ []
open_line text some all = ap (map text_of) (open_piece text some all)

unlike : (o : ℕ) → o ≢ 10 → eqb o 10 ≡ false
unlike o h = by (eqb_tells o 10)
  where
    by : ((eqb o 10 ≡ true) × (o ≡ 10)) ⊎ ((eqb o 10 ≡ false) × (o ≢ 10)) → eqb o 10 ≡ false
    by (inl k) = absurd (h k.1)
    by (inr k) = k.0

pub cut_piece : (line rest : List ℕ) → All (λ octet. octet ≢ 10) line → lines_of (line ++ 10 ∷ rest) ≡ Ended line ∷ lines_of rest
cut_piece [] rest h = refl
cut_piece (o ∷ line) rest h =
    let first : o ≢ 10 = h 0 o (omega arith) in
    rw (unlike o first) (ap (onto o) (cut_piece line rest (λ k d lt. h (suc k) d (omega arith))))

-- what precedes a newline is a line
pub cut_line : (line rest : List ℕ) → All (λ octet. octet ≢ 10) line → line_texts (line ++ 10 ∷ rest) ≡ strip_carriage_return line ∷ line_texts rest
cut_line line rest h = ap (map text_of) (cut_piece line rest h)

-- octets with no newline after them are a line
pub last_line : (line : List ℕ) → All (λ octet. octet ≢ 10) line → line ≢ [] → line_texts line ≡ line ∷ []
last_line line h some = open_line line some (λ k lt. unlike (get_or line k 0) (h k 0 lt))

pub last_piece : (line : List ℕ) → All (λ octet. octet ≢ 10) line → line ≢ [] → lines_of line ≡ Open line ∷ []
last_piece line h some = open_piece line some (λ k lt. unlike (get_or line k 0) (h k 0 lt))
