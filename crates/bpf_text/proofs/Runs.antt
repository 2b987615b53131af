-- Longest runs.
use Rattle.std.proofs.Common.{◌≡◌, ◌<◌, ◌≤◌, ◌↔◌, ◌++◌, ℕ, zero, suc, List, [], ◌∷◌, length, take, drop, true, false, IsTrue, eqb, sym, ap, ◌∙◌, subst, arith, eq-eqb, take-append-drop, append-nil, inl, inr}
use Rattle.std.proofs.lemmas.Bool.{eqb-true, cases_lt}
use Rattle.std.proofs.Math.ListN.{drop_of_length-le}
use Rattle.bpf_text.specs.Tokens.{AllWord, NoWord}

word_past : (t : List ℕ) (r : ℕ) → r < length t → AllWord t → NoWord (drop r t) → ⊥
word_past [] r lt all none = absurd (omega arith)
word_past (x ∷ t) zero lt all none = let bad : true ≡ false = sym all.0 ∙ none in absurd cc
word_past (x ∷ t) (suc r) lt all none = word_past t r (omega arith) all.1 none

whole_take : (t : List ℕ) (r : ℕ) → r ≡ length t → take r t ≡ t
whole_take t r e = sym (append-nil (take r t)) ∙ ap (λ (x : List ℕ). take r t ++ x) (sym (let past : length t ≤ r = omega (arith, e) in drop_of_length-le t past)) ∙ take-append-drop r t

pub run_all : (t : List ℕ) (r : ℕ) → r ≤ length t → AllWord (take r t) → NoWord (drop r t) → IsTrue (eqb r (length t)) ↔ AllWord t
run_all t r le run none = (
  λ h. subst AllWord (whole_take t r (eqb-true _ _ h)) run,
  λ all. elim (cases_lt r (length t)) [ inl lt ↦ absurd (word_past t r lt all none) | inr ge ↦ let same : r ≡ length t = omega arith in eq-eqb r (length t) same ],
)
