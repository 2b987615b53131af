-- Readings one after another.
use Rattle.std.proofs.Common.{◌≡◌, ◌≢◌, ℕ, ℤ, pos, List, [], ◌∷◌, Option, Some, None, Result, Ok, Err, IfSome, IfNone, Bor, length, ◌≤◌, ◌-◌, take, drop, get_or, arith, is_some, Bool, true, false, refl, sym, ap, ◌∙◌, subst, inl, inr, ◌⊎◌, FitsSigned}
use Rattle.std.specs.Int.{w16}
use Rattle.bpf_types.specs.Line.{IsReg}
use Rattle.bpf_types.specs.declared.line.Line.{Line}
use Rattle.bpf_text.specs.Fields.{IsRegister, IsDistance}
use Rattle.bpf_text.specs.Grammar.{Form, Token, After, Then, Bracket}
use Rattle.bpf_text.specs.Mirror.Reads.{State, Success, Reads, Notes, verdict}
use Rattle.bpf_text.specs.declared.line.LineFault.{LineFault}
use Rattle.bpf_text.specs.declared.line.LineFault.TheVariants.{Syntax, Range}
use Rattle.bpf_text.proofs.FieldLemmas.{no_closing, register_in_range}
use Rattle.bpf_text.specs.Lines.{Statement}
use Rattle.bpf_text.specs.Judged.{Gives, texts}
use Rattle.std.proofs.lemmas.Grind.{common_steps}

-- a statement of an instruction
abbrev pub statement : Line → Option (List ℕ) → Option ℕ → Statement
statement l name unknown = record { line = l; name = name; unknown_width = unknown }

-- a value with what is read after it
abbrev pub paired : {V W : Type 0} → V → Option W → Option (V × W)
paired v None = None
paired v (Some w) = Some (v, w)

kept_both : (A B : Type 0) {V W : Type 0} (a b : V) (c d : W) (o p q : Bool) → (A × (a ≡ b) × (p ≡ o)) ⊎ ((¬ A) × (p ≡ true)) → (B × (c ≡ d) × (q ≡ p)) ⊎ ((¬ B) × (q ≡ true))
    → ((A × B) × (◌≡◌ {A = V × W} (a, c) (b, d)) × (q ≡ o)) ⊎ ((¬ (A × B)) × (q ≡ true))
kept_both A B {V} {W} a b c d o p q (inl h) (inl k) = let same : ◌≡◌ {A = V × W} (a, c) (b, d) = ap (λ (x : V). let y : V × W = (x, c) in y) h.1 ∙ ap (λ (x : W). let y : V × W = (b, x) in y) k.1 in inl ((h.0, k.0), same, k.2 ∙ h.2)
kept_both A B a b c d o p q (inl h) (inr k) = inr (λ m. k.0 m.1, k.1)
kept_both A B a b c d o p q (inr h) (inl k) = inr (λ m. h.0 m.0, k.2 ∙ h.1)
kept_both A B a b c d o p q (inr h) (inr k) = inr (λ m. h.0 m.0, k.1)

pub then_next : {V W X Y : Type 0} {f : V → X} {L : List (List ℕ) → X → List (List ℕ) → Type 0} {F : X → Type 0} {s : State} {v : V} {t : State} → Success f L F s v t
    → (g : W → Y) (M : List (List ℕ) → Y → List (List ℕ) → Type 0) (G : Y → Type 0) (r : Option W) (u : State) → Reads g M G t r u
    → Reads (λ (p : V × W). (f p.0, g p.1)) (Then L M) (λ (w : X × Y). F w.0 × G w.1) s (paired v r) u
then_next h g M G None u k = λ w rest m. k w.1 rest (subst (λ (x : List (List ℕ)). M x w.1 rest) (h.only w.0 m.0 m.1) m.2)
then_next {f} {F} {s} {v} {t} h g M G (Some x) u k = record {
  written = (h.written, k.written);
  is = (t.0, h.is, k.is);
  kept = kept_both (F h.written) (G k.written) (f v) h.written (g x) k.written s.1 t.1 u.1 h.kept k.kept;
  only = λ w rest m. k.only w.1 rest (subst (λ (x : List (List ℕ)). M x w.1 rest) (h.only w.0 m.0 m.1) m.2);
}

pub after_next : {W X : Type 0} (mark : List ℕ) (s t : State) → (s.0 ≡ mark ∷ t.0) × (t.1 ≡ s.1) → (g : W → X) (M : List (List ℕ) → X → List (List ℕ) → Type 0) (G : X → Type 0) (r : Option W) (u : State) → Reads g M G t r u
    → Reads g (After mark M) G s r u
after_next mark s t h g M G None u k = λ w rest m. let e = m.1 in let f = h.0 in let same : m.0 ≡ t.0 = cc in k w rest (subst (λ (x : List (List ℕ)). M x w rest) same m.2)
after_next mark s t h g M G (Some x) u k = record {
  written = k.written;
  is = (t.0, h.0, k.is);
  kept = subst (λ (b : Bool). (G k.written × (g x ≡ k.written) × (u.1 ≡ b)) ⊎ ((¬ G k.written) × (u.1 ≡ true))) h.1 k.kept;
  only = λ w rest m. let e = m.1 in let f = h.0 in let same : m.0 ≡ t.0 = cc in k.only w rest (subst (λ (x : List (List ℕ)). M x w rest) same m.2);
}

pub token_read : {V W : Type 0} (view : V → W) (P : List ℕ → W → Type 0) (F : W → Type 0) (s t u : State) (token : List ℕ) (read : Result V LineFault) (r : Option V)
    → (s.0 ≡ token ∷ t.0) × (t.1 ≡ s.1) → Gives view (P token) F read → Notes t.1 read r u.1 → u.0 ≡ t.0 → Reads view (Token P) F s r u
token_read view P F s t u token (Ok v) None h g n e = absurd (let bad = n.0 in cc)
token_read view P F s t u token (Ok v) (Some x) h g n e = record {
  written = view v;
  is = (token, h.0 ∙ ap (λ (x : List (List ℕ)). token ∷ x) (sym e), g.0);
  kept = inl (g.1, (let q = n.0 in let same : x ≡ v = cc in ap view same), n.1 ∙ h.1);
  only = λ w rest m. let p = m.1 in let q = h.0 in cc;
}
token_read view P F s t u token (Err Syntax) None h g n e = λ w rest m. let p = m.1 in let q = h.0 in let same : m.0 ≡ token = cc in g w (subst (λ (x : List ℕ). P x w) same m.2)
token_read view P F s t u token (Err Syntax) (Some x) h g n e = absurd cc
token_read view P F s t u token (Err Range) None h g n e = absurd n
token_read view P F s t u token (Err Range) (Some x) h g n e = record {
  written = g.0;
  is = (token, h.0 ∙ ap (λ (x : List (List ℕ)). token ∷ x) (sym e), g.1);
  kept = inr (g.2, n);
  only = λ w rest m. let p = m.1 in let q = h.0 in cc;
}

pub register_read : (s t : State) (token : List ℕ) (r : Option ℕ) → (s.0 ≡ token ∷ t.0) × (t.1 ≡ s.1) → IfSome r (λ n. IsRegister token n) → IfNone r ((n : ℕ) → IsRegister token n → ⊥) → Reads (λ (n : ℕ). n) (Token IsRegister) IsReg s r t
register_read s t token None h some none = token_read (λ (n : ℕ). n) IsRegister IsReg s t t token (Err Syntax) None h none refl refl
register_read s t token (Some n) h some none = token_read (λ (n : ℕ). n) IsRegister IsReg s t t token (Ok n) (Some n) h (some, register_in_range token n some) (refl, refl) refl

pub no_token : {W : Type 0} (P : List ℕ → W → Type 0) (tokens : List (List ℕ)) → tokens ≡ [] → (w : W) → (rest : List (List ℕ)) → ¬ Token P tokens w rest
no_token P tokens e w rest m = let p = m.1 in absurd cc

-- the closing bracket, with an offset or none
pub closed_at_once : (s t : State) → (s.0 ≡ (93 ∷ []) ∷ t.0) × (t.1 ≡ s.1) → (b : FitsSigned w16 (pos 0)) → Success (λ (z : ℤ). z) Bracket (FitsSigned w16) s (pos 0) t
closed_at_once s t h b = record { written = _; is = inl (h.0, refl); kept = inl (b, refl, h.1); only = by }
  where
    by : (w : ℤ) → (rest : List (List ℕ)) → Bracket s.0 w rest → rest ≡ t.0
    by w rest (inl k) = let e = k.0 in let f = h.0 in cc
    by w rest (inr k) = let e = k.1 in let f = h.0 in let same : k.0 ≡ 93 ∷ [] = cc in absurd (no_closing k.0 w same k.2)

pub closed_read : (s t u v : State) (token : List ℕ) (read : Result ℤ LineFault) (r : Option ℤ) → ((rest : List (List ℕ)) → s.0 ≢ (93 ∷ []) ∷ rest) → (s.0 ≡ token ∷ t.0) × (t.1 ≡ s.1) → (t.0 ≡ (93 ∷ []) ∷ u.0) × (u.1 ≡ t.1)
    → Gives (λ (z : ℤ). z) (IsDistance token) (FitsSigned w16) read → Notes u.1 read r v.1 → v.0 ≡ u.0 → Reads (λ (z : ℤ). z) Bracket (FitsSigned w16) s r v
closed_read s t u v token read r none h k g n e = by r (token_read (λ (z : ℤ). z) IsDistance (FitsSigned w16) s (t.0, u.1) (t.0, v.1) token read r (h.0, k.1 ∙ h.1) g n refl)
  where
    to : (w : ℤ) (rest : List (List ℕ)) → Bracket s.0 w rest → Token IsDistance s.0 w ((93 ∷ []) ∷ rest)
    to w rest (inl m) = absurd (none rest m.0)
    to w rest (inr m) = m

    by : (r : Option ℤ) → Reads (λ (z : ℤ). z) (Token IsDistance) (FitsSigned w16) s r (t.0, v.1) → Reads (λ (z : ℤ). z) Bracket (FitsSigned w16) s r v
    by None f = λ w rest m. f w ((93 ∷ []) ∷ rest) (to w rest m)
    by (Some z) f = record {
      written = f.written;
      is = inr (f.is.0, f.is.1 ∙ ap (λ (x : List (List ℕ)). f.is.0 ∷ x) (k.0 ∙ ap (λ (x : List (List ℕ)). (93 ∷ []) ∷ x) (sym e)), f.is.2);
      kept = f.kept;
      only = λ w rest m. let p = f.only w ((93 ∷ []) ∷ rest) (to w rest m) in let q = k.0 in cc;
    }

pub no_closed : (s t : State) (token : List ℕ) → ((rest : List (List ℕ)) → s.0 ≢ (93 ∷ []) ∷ rest) → s.0 ≡ token ∷ t.0 → ((rest : List (List ℕ)) → t.0 ≢ (93 ∷ []) ∷ rest) → (w : ℤ) → (rest : List (List ℕ)) → ¬ Bracket s.0 w rest
no_closed s t token none h more w rest (inl m) = none rest m.0
no_closed s t token none h more w rest (inr m) = let p = m.1 in let same : t.0 ≡ (93 ∷ []) ∷ rest = cc in more rest same

-- what is read of all tokens
pub gives_of : {V W : Type 0} (view : V → W) (L : Form W) (F : W → Type 0) (s : State) (r : Option V) (u : State) → s.1 ≡ false → Reads view L F s r u → Gives view (λ (w : W). L s.0 w []) F (verdict r u)
gives_of view L F s None u start h = λ w p. h w [] p
gives_of view L F s (Some v) ([], false) start h = elim h.kept [
  | inl k ↦ (subst (λ w. L s.0 w []) (sym k.1) h.is, subst F (sym k.1) k.0)
  | inr k ↦ let bad = k.1 in absurd cc
]
gives_of view L F s (Some v) ([], true) start h = elim h.kept [
  | inl k ↦ let bad = k.2 in absurd cc
  | inr k ↦ (h.written, h.is, k.0)
]
gives_of view L F s (Some v) (x ∷ xs, out) start h = λ w p. let bad = h.only w [] p in absurd cc

-- the tokens after the first one
pub word_front : (ts : List (Bor (List ℕ))) (word : List ℕ) (other : Bor (List ℕ)) → 1 ≤ length ts → (get_or ts 0 other).now ≡ word → texts ts ≡ word ∷ texts (take (length ts - 1) (drop 1 ts))
word_front [] word other le same = absurd (omega arith)
word_front (x ∷ ts) word other le same = let e : take (length (x ∷ ts) - 1) (drop 1 (x ∷ ts)) ≡ ts = grind (arith, common_steps) in rw e (ap (λ (m : List ℕ). m ∷ texts ts) same)

pub if_some : {P : Type 0} (r : Option (Unit {0})) → IfSome r (λ u. P) → is_some r ≡ true → P
if_some None h e = absurd cc
if_some (Some u) h e = h

pub if_none : {P : Type 0} (r : Option (Unit {0})) → IfNone r P → is_some r ≡ false → P
if_none None h e = h
if_none (Some u) h e = absurd cc
