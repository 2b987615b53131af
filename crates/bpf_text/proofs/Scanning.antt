-- Blanks and runs at the front of a line.
use Rattle.std.proofs.lemmas.Grind.{common_steps}
use Rattle.std.proofs.lemmas.Bool.Decides.{nat_tests}
use Rattle.std.proofs.Common.{inl, inr, ◌-◌, length-drop, ◌≡◌, ◌<◌, ◌≤◌, ◌++◌, ℕ, zero, suc, List, [], ◌∷◌, length, take, drop, get_or, MatchBool, Bool, true, false, refl, sym, ap, ◌∙◌, subst, arith}
use Rattle.bpf_text.specs.Tokens.{is_word, is_mark, is_sign, is_blank, AllWord, NoWord, Stands, Leads, Ends, HasTokens}
use Rattle.bpf_text.specs.Mirror.Scans.{AfterBlanks}

-- a front of octets of a word
pub run_front : (text : List ℕ) (i : ℕ) → i ≤ length text → ((k : ℕ) → k < i → is_word (get_or text k 0) ≡ true) → AllWord (take i text)
run_front text zero le all = tt
run_front [] (suc i) le all = absurd (omega arith)
run_front (octet ∷ text) (suc i) le all = (all 0 (omega arith), run_front text i (omega arith) (λ k h. all (suc k) (omega arith)))

-- it ends at an octet of no word
pub run_ends : (text : List ℕ) (i : ℕ) → i < length text → is_word (get_or text i 0) ≡ false → NoWord (drop i text)
run_ends [] i lt unlike = absurd (omega arith)
run_ends (octet ∷ text) zero lt unlike = unlike
run_ends (octet ∷ text) (suc i) lt unlike = run_ends text i (omega arith) unlike

-- the blanks at the front are no part of a token
pub blank_front : (line : List ℕ) (i : ℕ) → i ≤ length line → ((k : ℕ) → k < i → is_blank (get_or line k 0) ≡ true) → (i < length line → is_blank (get_or line i 0) ≡ false) → AfterBlanks line (drop i line)
blank_front [] zero le all unlike = record { front = tt; ends = (λ h. h, λ h. h); leads = λ token rest. (λ h. h, λ h. h) }
blank_front (octet ∷ line) zero le all unlike = record { front = unlike (omega arith); ends = (λ h. h, λ h. h); leads = λ token rest. (λ h. h, λ h. h) }
blank_front [] (suc i) le all unlike = absurd (omega arith)
blank_front (octet ∷ line) (suc i) le all unlike =
    let p = blank_front line i (omega arith) (λ k h. all (suc k) (omega arith)) (λ h. unlike (omega arith)) in
    let e : is_blank octet ≡ true = all 0 (omega arith) in
    record {
      front = p.front;
      ends = rw e p.ends;
      leads = λ token rest. rw e (p.leads token rest);
    }

pub whole_drop : (line : List ℕ) (i : ℕ) → take (length line - i) (drop i line) ≡ drop i line
whole_drop line i = grind (arith, common_steps, length-drop i line)

mark_no_word : (octet : ℕ) → is_mark octet ≡ true → is_word octet ≡ false
mark_no_word octet h = grind (arith, nat_tests)

sign_no_word : (octet : ℕ) → is_sign octet ≡ true → is_word octet ≡ false
sign_no_word octet h = grind (arith, nat_tests)

sign_no_blank : (octet : ℕ) → is_sign octet ≡ true → is_blank octet ≡ false
sign_no_blank octet h = grind (arith, nat_tests)

sign_no_mark : (octet : ℕ) → is_sign octet ≡ true → is_mark octet ≡ false
sign_no_mark octet h = grind (arith, nat_tests)

-- no token is where neither a word nor a mark is, nor a sign before a word
pub none_stands : (octet : ℕ) (line token rest : List ℕ) → is_mark octet ≡ false → is_word octet ≡ false → (is_sign octet ≡ true → NoWord line) → octet ∷ line ≡ token ++ rest → Stands token rest → ⊥
none_stands octet line [] rest m w s e h = h
none_stands octet line (t ∷ ts) rest m w s e (inl h) = let a : octet ≡ t = cc in absurd cc
none_stands octet line (t ∷ ts) rest m w s e (inr (inl h)) = absurd cc
none_stands octet line (t ∷ []) rest m w s e (inr (inr h)) = h.1 refl
none_stands octet line (t ∷ u ∷ us) rest m w s e (inr (inr h)) =
    let same : octet ≡ t = cc in
    let after : line ≡ u ∷ (us ++ rest) = cc in
    let bad : true ≡ false = sym h.2.0 ∙ subst NoWord after (s (ap is_sign same ∙ h.0)) in
    absurd cc

-- a sign with no run after it is no token
pub lone_sign : (line : List ℕ) → 1 ≤ length line → is_sign (get_or line 0 0) ≡ true → NoWord (drop 1 line) → ¬ Ends line × ((token rest : List ℕ) → ¬ Leads line token rest)
lone_sign [] le sign none = absurd (omega arith)
lone_sign (octet ∷ line) le sign none =
    let b : is_blank octet ≡ false = sign_no_blank octet sign in
    rw b (λ h. let bad : is_sign 59 ≡ true = ap is_sign (sym h) ∙ sign in absurd cc, λ token rest h. none_stands octet line token rest (sign_no_mark octet sign) (sign_no_word octet sign) (λ _. none) h.0 h.1)

one_run : (a r b s : List ℕ) → AllWord a → NoWord r → AllWord b → NoWord s → a ++ r ≡ b ++ s → (a ≡ b) × (r ≡ s)
one_run [] r [] s aw rn bw sn e = (refl, e)
one_run [] [] (y ∷ b) s aw rn bw sn e = absurd cc
one_run [] (x ∷ r) (y ∷ b) s aw rn bw sn e = let same : x ≡ y = cc in let bad : true ≡ false = sym bw.0 ∙ ap is_word (sym same) ∙ rn in absurd cc
one_run (x ∷ a) r [] [] aw rn bw sn e = absurd cc
one_run (x ∷ a) r [] (y ∷ s) aw rn bw sn e = let same : x ≡ y = cc in let bad : true ≡ false = sym aw.0 ∙ ap is_word same ∙ sn in absurd cc
one_run (x ∷ a) r (y ∷ b) s aw rn bw sn e =
    let same : x ≡ y = cc in
    let p = one_run a r b s aw.1 rn bw.1 sn cc in
    (let p0 = p.0 in cc, p.1)

apart : (x y : ℕ) (P Q : ℕ → Bool) → ((o : ℕ) → P o ≡ true → Q o ≡ false) → x ≡ y → P x ≡ true → Q y ≡ true → ⊥
apart x y P Q excludes e p q = let a : Q x ≡ true = ap Q e ∙ q in let bad : true ≡ false = sym a ∙ excludes x p in absurd cc

append_cancel : (t u r s : List ℕ) → t ≡ [] → u ≡ [] → t ++ r ≡ u ++ s → r ≡ s
append_cancel t u r s p q e = sym (ap (λ (a : List ℕ). a ++ r) p) ∙ e ∙ ap (λ (a : List ℕ). a ++ s) q

-- octets begin with one token at most
pub one_standing : (t r u s : List ℕ) → Stands t r → Stands u s → t ++ r ≡ u ++ s → (t ≡ u) × (r ≡ s)
one_standing [] r u s h k e = absurd h
one_standing (x ∷ t) r [] s h k e = absurd k
one_standing (x ∷ t) r (y ∷ u) s (inl h) (inl k) e = let p = h.1 in let q = k.1 in (cc, append_cancel t u r s h.1 k.1 cc)
one_standing (x ∷ t) r (y ∷ u) s (inl h) (inr (inl k)) e = absurd (apart x y is_mark is_word mark_no_word (cc) h.0 k.0)
one_standing (x ∷ t) r (y ∷ u) s (inl h) (inr (inr k)) e = let same : y ≡ x = cc in absurd (apart y x is_sign is_mark sign_no_mark same k.0 h.0)
one_standing (x ∷ t) r (y ∷ u) s (inr (inl h)) (inl k) e = let same : y ≡ x = cc in absurd (apart y x is_mark is_word mark_no_word same k.0 h.0)
one_standing (x ∷ t) r (y ∷ u) s (inr (inl h)) (inr (inl k)) e = let same : x ≡ y = cc in let p = one_run t r u s h.1 h.2 k.1 k.2 cc in (let p0 = p.0 in cc, p.1)
one_standing (x ∷ t) r (y ∷ u) s (inr (inl h)) (inr (inr k)) e = let same : y ≡ x = cc in absurd (apart y x is_sign is_word sign_no_word same k.0 h.0)
one_standing (x ∷ t) r (y ∷ u) s (inr (inr h)) (inl k) e = absurd (apart x y is_sign is_mark sign_no_mark (cc) h.0 k.0)
one_standing (x ∷ t) r (y ∷ u) s (inr (inr h)) (inr (inl k)) e = absurd (apart x y is_sign is_word sign_no_word (cc) h.0 k.0)
one_standing (x ∷ t) r (y ∷ u) s (inr (inr h)) (inr (inr k)) e = let same : x ≡ y = cc in let p = one_run t r u s h.2 h.3 k.2 k.3 cc in (let p0 = p.0 in cc, p.1)

pub one_lead : (line t r u s : List ℕ) → Leads line t r → Leads line u s → (t ≡ u) × (r ≡ s)
one_lead [] t r u s h k = absurd h
one_lead (o ∷ os) t r u s h k = lead_by o os t r u s (is_blank o) (one_lead os t r u s) h k
  where
    lead_by : (o : ℕ) (os t r u s : List ℕ) (b : Bool) → (Leads os t r → Leads os u s → (t ≡ u) × (r ≡ s))
        → MatchBool b (Leads os t r) ((o ∷ os ≡ t ++ r) × Stands t r) → MatchBool b (Leads os u s) ((o ∷ os ≡ u ++ s) × Stands u s) → (t ≡ u) × (r ≡ s)
    lead_by o os t r u s true ih h k = ih h k
    lead_by o os t r u s false ih h k = one_standing t r u s h.1 k.1 (sym h.0 ∙ k.0)

-- a line that ends has no token
comment_stands : (line t r : List ℕ) → 59 ∷ line ≡ t ++ r → Stands t r → ⊥
comment_stands line t r e h = none_stands 59 line t r refl refl (λ bad. absurd cc) e h

pub end_or_lead : (line t r : List ℕ) → Ends line → Leads line t r → ⊥
end_or_lead [] t r h k = k
end_or_lead (o ∷ os) t r h k = by o os t r (is_blank o) (end_or_lead os t r) h k
  where
    by : (o : ℕ) (os t r : List ℕ) (b : Bool) → (Ends os → Leads os t r → ⊥) → MatchBool b (Ends os) (o ≡ 59) → MatchBool b (Leads os t r) ((o ∷ os ≡ t ++ r) × Stands t r) → ⊥
    by o os t r true ih h k = ih h k
    by o os t r false ih h k = comment_stands os t r (ap (λ (x : ℕ). x ∷ os) (sym h) ∙ k.0) k.1

-- a line has one list of tokens
pub one_tokens : (line : List ℕ) (ts us : List (List ℕ)) → HasTokens line ts → HasTokens line us → ts ≡ us
one_tokens line [] [] h k = refl
one_tokens line [] (u ∷ us) h k = absurd (end_or_lead line u k.0 h k.1)
one_tokens line (t ∷ ts) [] h k = absurd (end_or_lead line t h.0 k h.1)
one_tokens line (t ∷ ts) (u ∷ us) h k =
    let p = one_lead line t h.0 u k.0 h.1 k.1 in
    let q = one_tokens h.0 ts us h.2 (subst (λ (r : List ℕ). HasTokens r us) (sym p.1) k.2) in
    let p0 = p.0 in cc
