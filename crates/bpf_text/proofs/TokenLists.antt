-- The tokens of a line, one by one.
use Rattle.std.proofs.Common.{◌≡◌, ◌<◌, ◌++◌, ℕ, suc, List, [], ◌∷◌, length, map, refl, sym, ap, ◌∙◌, subst, arith, append_assoc, append-nil, length-append, Bor}
use Rattle.bpf_text.specs.Tokens.{Leads, Ends, HasTokens}
use Rattle.bpf_text.proofs.Scanning.{one_lead, end_or_lead}

abbrev pub texts : List (Bor (List ℕ)) → List (List ℕ)
texts ts = map (λ token. token.now) ts

-- the tokens so far, and a rest that has the others
pub record SoFar (line rest : List ℕ) (found : List (List ℕ)) : Type 0 where
  pub then : (ts : List (List ℕ)) → HasTokens rest ts → HasTokens line (found ++ ts)
  pub only : (ts : List (List ℕ)) → HasTokens line ts → (us : List (List ℕ)) × (ts ≡ found ++ us) × HasTokens rest us

pub none_found : (line : List ℕ) → SoFar line line []
none_found line = record { then = λ ts h. h; only = λ ts h. (ts, refl, h) }

pub one_found : (line rest token after : List ℕ) (found : List (List ℕ)) → SoFar line rest found → Leads rest token after → SoFar line after (found ++ token ∷ [])
one_found line rest token after found s lead = record {
  then = λ ts h. subst (HasTokens line) (sym (append_assoc found (token ∷ []) ts)) (s.then (token ∷ ts) (after, lead, h));
  only = λ ts h. let p = s.only ts h in others ts p.0 p.1 p.2;
}
  where
    others : (ts us : List (List ℕ)) → ts ≡ found ++ us → HasTokens rest us → (vs : List (List ℕ)) × (ts ≡ (found ++ token ∷ []) ++ vs) × HasTokens after vs
    others ts [] e h = absurd (end_or_lead rest token after h lead)
    others ts (u ∷ us) e h =
        let same = one_lead rest u h.0 token after h.1 lead in
        (us, e ∙ ap (λ (t : List ℕ). found ++ t ∷ us) same.0 ∙ sym (append_assoc found (token ∷ []) us), subst (λ (r : List ℕ). HasTokens r us) same.1 h.2)

pub all_found : (line rest : List ℕ) (found : List (List ℕ)) → SoFar line rest found → Ends rest → HasTokens line found
all_found line rest found s h = subst (HasTokens line) (append-nil found) (s.then [] h)

pub bad_found : (line rest : List ℕ) (found : List (List ℕ)) → SoFar line rest found → (¬ Ends rest) × ((token after : List ℕ) → ¬ Leads rest token after) → (ts : List (List ℕ)) → HasTokens line ts → ⊥
bad_found line rest found s bad ts h = let p = s.only ts h in by p.0 p.2
  where
    by : (us : List (List ℕ)) → HasTokens rest us → ⊥
    by [] h = bad.0 h
    by (u ∷ us) h = bad.1 u h.0 h.1

pub too_many : (line rest token after : List ℕ) (found : List (List ℕ)) → SoFar line rest found → Leads rest token after → (ts : List (List ℕ)) → HasTokens line ts → length found < length ts
too_many line rest token after found s lead ts h = let p = s.only ts h in by p.0 p.1 p.2
  where
    by : (us : List (List ℕ)) → ts ≡ found ++ us → HasTokens rest us → length found < length ts
    by [] e h = absurd (end_or_lead rest token after h lead)
    by (u ∷ us) e h = omega (arith, ap length e, length-append found (u ∷ us))

pub length_texts : (ts : List (Bor (List ℕ))) → length (texts ts) ≡ length ts
length_texts [] = refl
length_texts (t ∷ ts) = ap suc (length_texts ts)

pub texts_push : (ts us : List (Bor (List ℕ))) (t : Bor (List ℕ)) → us ≡ ts ++ t ∷ [] → texts us ≡ texts ts ++ t.now ∷ []
texts_push ts us t e = ap texts e ∙ pushed ts t
  where
    pushed : (ts : List (Bor (List ℕ))) (t : Bor (List ℕ)) → texts (ts ++ t ∷ []) ≡ texts ts ++ t.now ∷ []
    pushed [] t = refl
    pushed (x ∷ ts) t = ap (λ (r : List (List ℕ)). x.now ∷ r) (pushed ts t)
