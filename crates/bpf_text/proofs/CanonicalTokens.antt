-- The tokens of a text that is made of runs, spaces, commas and brackets.
use Rattle.std.proofs.Common.{◌≡◌, ℕ, List, [], ◌∷◌, ◌++◌, true, false, refl, sym, subst, arith, inl, inr, append_assoc, append-nil}
use Rattle.std.specs.Prelude.{codes}
use Rattle.std.proofs.lemmas.Bool.Decides.{nat_tests}
use Rattle.bpf_text.specs.Tokens.{is_word, is_sign, is_blank, NoWord, Leads, HasTokens}
use Rattle.bpf_text.proofs.CanonicalNumbers.{IsRun}

-- two texts, one after the other, grouped to the right
infixr 50 ◌⧺◌
abbrev pub ◌⧺◌ : List ℕ → List ℕ → List ℕ
xs ⧺ ys = xs ++ ys

word_no_blank : (o : ℕ) → is_word o ≡ true → is_blank o ≡ false
word_no_blank o h = grind (arith, nat_tests)

sign_no_blank : (o : ℕ) → is_sign o ≡ true → is_blank o ≡ false
sign_no_blank o h = grind (arith, nat_tests)

pub run_leads : (w rest : List ℕ) → IsRun w → NoWord rest → Leads (w ++ rest) w rest
run_leads [] rest run none = absurd run
run_leads (o ∷ os) rest (inl h) none = rw (word_no_blank o h.0) (refl, inr (inl (h.0, h.1, none)))
run_leads (o ∷ os) rest (inr h) none = rw (sign_no_blank o h.0) (refl, inr (inr (h.0, h.1, h.2, none)))

pub run_then : (w rest : List ℕ) (ts : List (List ℕ)) → IsRun w → NoWord rest → HasTokens rest ts → HasTokens (w ++ rest) (w ∷ ts)
run_then w rest ts run none h = (rest, run_leads w rest run none, h)

pub run_last : (w : List ℕ) → IsRun w → HasTokens w (w ∷ [])
run_last w run = subst (λ (t : List ℕ). HasTokens t (w ∷ [])) (append-nil w) (run_then w [] [] run tt tt)

pub blank_then : (rest : List ℕ) (ts : List (List ℕ)) → HasTokens rest ts → HasTokens (32 ∷ rest) ts
blank_then rest [] h = h
blank_then rest (t ∷ ts) h = h

pub comma_then : (rest : List ℕ) (ts : List (List ℕ)) → HasTokens rest ts → HasTokens (44 ∷ 32 ∷ rest) (codes "," ∷ ts)
comma_then rest ts h = (32 ∷ rest, (refl, inl (refl, refl)), blank_then rest ts h)

pub opening_then : (rest : List ℕ) (ts : List (List ℕ)) → HasTokens rest ts → HasTokens (91 ∷ rest) (codes "[" ∷ ts)
opening_then rest ts h = (rest, (refl, inl (refl, refl)), h)

pub closing_then : (rest : List ℕ) (ts : List (List ℕ)) → HasTokens rest ts → HasTokens (93 ∷ rest) (codes "]" ∷ ts)
closing_then rest ts h = (rest, (refl, inl (refl, refl)), h)

-- a word and one operand
pub word_and_one : (m a : List ℕ) → IsRun m → IsRun a → HasTokens (m ++ (codes " " ++ a)) (m ∷ a ∷ [])
word_and_one m a hm ha = run_then m (32 ∷ a) (a ∷ []) hm refl (blank_then a (a ∷ []) (run_last a ha))

regroup_two : (m s a c b : List ℕ) → m ++ (s ++ a ++ c ++ b) ≡ m ⧺ s ⧺ a ⧺ c ⧺ b
regroup_two m s a c b = simp append_assoc

regroup_three : (m s a c b d e : List ℕ) → m ++ (s ++ a ++ c ++ b ++ d ++ e) ≡ m ⧺ s ⧺ a ⧺ c ⧺ b ⧺ d ⧺ e
regroup_three m s a c b d e = simp append_assoc

regroup_load : (m s a c p b o q : List ℕ) → m ++ (s ++ a ++ c ++ (p ++ b ++ o ++ q)) ≡ m ⧺ s ⧺ a ⧺ c ⧺ p ⧺ b ⧺ o ⧺ q
regroup_load m s a c p b o q = simp append_assoc

regroup_store : (m s p b o q c a : List ℕ) → m ++ (s ++ (p ++ b ++ o ++ q) ++ c ++ a) ≡ m ⧺ s ⧺ p ⧺ b ⧺ o ⧺ q ⧺ c ⧺ a
regroup_store m s p b o q c a = simp append_assoc

-- a word and two operands
pub word_and_two : (m a b : List ℕ) → IsRun m → IsRun a → IsRun b → HasTokens (m ++ (codes " " ++ a ++ codes ", " ++ b)) (m ∷ a ∷ codes "," ∷ b ∷ [])
word_and_two m a b hm ha hb = subst (λ (t : List ℕ). HasTokens t (m ∷ a ∷ codes "," ∷ b ∷ [])) (sym (regroup_two m (codes " ") a (codes ", ") b))
    (run_then m (32 ∷ a ⧺ codes ", " ⧺ b) (a ∷ codes "," ∷ b ∷ []) hm refl
    (blank_then (a ⧺ codes ", " ⧺ b) (a ∷ codes "," ∷ b ∷ [])
    (run_then a (codes ", " ⧺ b) (codes "," ∷ b ∷ []) ha refl
    (comma_then b (b ∷ []) (run_last b hb)))))

-- a word and three operands
pub word_and_three : (m a b c : List ℕ) → IsRun m → IsRun a → IsRun b → IsRun c → HasTokens (m ++ (codes " " ++ a ++ codes ", " ++ b ++ codes ", " ++ c)) (m ∷ a ∷ codes "," ∷ b ∷ codes "," ∷ c ∷ [])
word_and_three m a b c hm ha hb hc = subst (λ (t : List ℕ). HasTokens t (m ∷ a ∷ codes "," ∷ b ∷ codes "," ∷ c ∷ [])) (sym (regroup_three m (codes " ") a (codes ", ") b (codes ", ") c))
    (run_then m (32 ∷ a ⧺ codes ", " ⧺ b ⧺ codes ", " ⧺ c) (a ∷ codes "," ∷ b ∷ codes "," ∷ c ∷ []) hm refl
    (blank_then (a ⧺ codes ", " ⧺ b ⧺ codes ", " ⧺ c) (a ∷ codes "," ∷ b ∷ codes "," ∷ c ∷ [])
    (run_then a (codes ", " ⧺ b ⧺ codes ", " ⧺ c) (codes "," ∷ b ∷ codes "," ∷ c ∷ []) ha refl
    (comma_then (b ⧺ codes ", " ⧺ c) (b ∷ codes "," ∷ c ∷ [])
    (run_then b (codes ", " ⧺ c) (codes "," ∷ c ∷ []) hb refl
    (comma_then c (c ∷ []) (run_last c hc)))))))

-- a word, a register and an operand in memory
pub word_and_load : (m a b o : List ℕ) → IsRun m → IsRun a → IsRun b → IsRun o → ((rest : List ℕ) → NoWord (o ++ rest))
    → HasTokens (m ++ (codes " " ++ a ++ codes ", " ++ (codes "[" ++ b ++ o ++ codes "]"))) (m ∷ a ∷ codes "," ∷ codes "[" ∷ b ∷ o ∷ codes "]" ∷ [])
word_and_load m a b o hm ha hb ho sign = subst (λ (t : List ℕ). HasTokens t (m ∷ a ∷ codes "," ∷ codes "[" ∷ b ∷ o ∷ codes "]" ∷ [])) (sym (regroup_load m (codes " ") a (codes ", ") (codes "[") b o (codes "]")))
    (run_then m (32 ∷ a ⧺ codes ", " ⧺ codes "[" ⧺ b ⧺ o ⧺ codes "]") (a ∷ codes "," ∷ codes "[" ∷ b ∷ o ∷ codes "]" ∷ []) hm refl
    (blank_then (a ⧺ codes ", " ⧺ codes "[" ⧺ b ⧺ o ⧺ codes "]") (a ∷ codes "," ∷ codes "[" ∷ b ∷ o ∷ codes "]" ∷ [])
    (run_then a (codes ", " ⧺ codes "[" ⧺ b ⧺ o ⧺ codes "]") (codes "," ∷ codes "[" ∷ b ∷ o ∷ codes "]" ∷ []) ha refl
    (comma_then (codes "[" ⧺ b ⧺ o ⧺ codes "]") (codes "[" ∷ b ∷ o ∷ codes "]" ∷ [])
    (opening_then (b ⧺ o ⧺ codes "]") (b ∷ o ∷ codes "]" ∷ [])
    (run_then b (o ⧺ codes "]") (o ∷ codes "]" ∷ []) hb (sign (codes "]"))
    (run_then o (codes "]") (codes "]" ∷ []) ho refl
    (closing_then [] [] tt))))))))

-- a word, an operand in memory and one operand
pub word_and_store : (m b o a : List ℕ) → IsRun m → IsRun b → IsRun o → IsRun a → ((rest : List ℕ) → NoWord (o ++ rest))
    → HasTokens (m ++ (codes " " ++ (codes "[" ++ b ++ o ++ codes "]") ++ codes ", " ++ a)) (m ∷ codes "[" ∷ b ∷ o ∷ codes "]" ∷ codes "," ∷ a ∷ [])
word_and_store m b o a hm hb ho ha sign = subst (λ (t : List ℕ). HasTokens t (m ∷ codes "[" ∷ b ∷ o ∷ codes "]" ∷ codes "," ∷ a ∷ [])) (sym (regroup_store m (codes " ") (codes "[") b o (codes "]") (codes ", ") a))
    (run_then m (32 ∷ codes "[" ⧺ b ⧺ o ⧺ codes "]" ⧺ codes ", " ⧺ a) (codes "[" ∷ b ∷ o ∷ codes "]" ∷ codes "," ∷ a ∷ []) hm refl
    (blank_then (codes "[" ⧺ b ⧺ o ⧺ codes "]" ⧺ codes ", " ⧺ a) (codes "[" ∷ b ∷ o ∷ codes "]" ∷ codes "," ∷ a ∷ [])
    (opening_then (b ⧺ o ⧺ codes "]" ⧺ codes ", " ⧺ a) (b ∷ o ∷ codes "]" ∷ codes "," ∷ a ∷ [])
    (run_then b (o ⧺ codes "]" ⧺ codes ", " ⧺ a) (o ∷ codes "]" ∷ codes "," ∷ a ∷ []) hb (sign (codes "]" ⧺ codes ", " ⧺ a))
    (run_then o (codes "]" ⧺ codes ", " ⧺ a) (codes "]" ∷ codes "," ∷ a ∷ []) ho refl
    (closing_then (codes ", " ⧺ a) (codes "," ∷ a ∷ [])
    (comma_then a (a ∷ []) (run_last a ha))))))))
