-- A line from its tokens.
use Rattle.std.proofs.Common.{◌≡◌, ◌≢◌, ◌<◌, ℕ, ℤ, List, [], ◌∷◌, length, get_or, Option, Some, None, Result, Ok, Err, true, false, refl, sym, ap, ◌∙◌, subst, arith, inl, inr, Bor, Bool, eqb, pos, ◌-ℤ◌, ◌⊎◌}
use Rattle.bpf_text.specs.Tokens.{HasTokens, is_word, is_sign}
use Rattle.bpf_text.specs.Number.{IsNumeral}
use Rattle.bpf_text.specs.Fields.{IsName, IsDistance, IsRegister, IsImmediate, IsSecond, IsTarget}
use Rattle.bpf_text.proofs.FieldLemmas.{letter_no_numeral}
use Rattle.bpf_text.specs.Grammar.{Form, Token, After, Then, ◌⸴◌, Bracket, Memory}
use Rattle.bpf_text.specs.Lines.{IsOperands, IsForm, IsBody, HasLabel, Statement}
use Rattle.bpf_text.specs.Judged.{texts, JudgesForm, JudgesBody, JudgesTokens, JudgesLine}
use Rattle.bpf_types.specs.declared.line.Line.{Line}
use Rattle.bpf_types.specs.declared.line.Line.TheVariants as line
use Rattle.bpf_text.specs.declared.line.TextLine.{TextLine as LentLine}
use Rattle.bpf_text.specs.declared.line.LineFault.{LineFault}
use Rattle.bpf_text.specs.declared.line.LineFault.TheVariants.{Syntax, Range}
use Rattle.bpf_text.proofs.Scanning.{one_tokens}
use Rattle.bpf_text.proofs.ReadLemmas.{statement}

pub body_err : (tokens : List (List ℕ)) (fault : LineFault) → (tokens ≡ [] → ⊥) → JudgesForm tokens (Err fault) → JudgesBody tokens (Err fault)
body_err tokens Syntax some judge = λ s h. by s h
  where
    by : (s : Option Statement) → IsBody s tokens → ⊥
    by None h = some h
    by (Some s) h = judge s h
body_err tokens Range some judge = (Some judge.0, judge.1, judge.2)

-- a colon is no operand
no_register : (n : ℕ) → IsRegister (58 ∷ []) n → ⊥
no_register n (inl h) = omega (arith, ap length h.1)
no_register n (inr h) = omega (arith, ap length h.1)

no_distance : (o : ℕ) (z : ℤ) → is_sign o ≡ false → IsDistance (o ∷ []) z → ⊥
no_distance o z other h = by h.3
  where
    by : (((o ∷ []) ≡ 43 ∷ h.0) × (z ≡ pos h.1)) ⊎ (((o ∷ []) ≡ 45 ∷ h.0) × (z ≡ pos 0 -ℤ pos h.1)) → ⊥
    by (inl k) = let p = k.0 in let q : o ≡ 43 = cc in let bad : true ≡ false = ap is_sign (sym q) ∙ other in absurd cc
    by (inr k) = let p = k.0 in let q : o ≡ 45 = cc in let bad : true ≡ false = ap is_sign (sym q) ∙ other in absurd cc

no_target : (o : ℕ) (w : ℤ × Option (List ℕ)) → is_sign o ≡ false → is_word o ≡ false → IsTarget (o ∷ []) w → ⊥
no_target o (z, None) s w h = no_distance o z s h
no_target o (z, Some name) s w h = let bad : true ≡ false = sym h.0.0.0 ∙ w in absurd cc

no_number : (t : List ℕ) (z : ℤ) → t ≡ 58 ∷ [] → IsImmediate t z → ⊥
no_number t z e (y, inl h, is) = letter_no_numeral 58 [] h.0 (omega arith) (subst (λ (u : List ℕ). IsNumeral u h.0) e h.1)
no_number t z e (y, inr h, is) = let q = h.2 in absurd (omega (arith, ap (λ (u : List ℕ). get_or u 0 0) (sym e ∙ q)))

-- no form begins with a colon
abbrev NoColon : {V : Type 0} → Form V → Type 0
NoColon {V} F = (tokens rest : List (List ℕ)) (v : V) (after : List (List ℕ)) → tokens ≡ (58 ∷ []) ∷ rest → F tokens v after → ⊥

no_token : {V : Type 0} (P : List ℕ → V → Type 0) → ((v : V) → P (58 ∷ []) v → ⊥) → NoColon (Token P)
no_token P never tokens rest v after e m = let f = m.1 in let same : m.0 ≡ 58 ∷ [] = cc in never v (subst (λ (t : List ℕ). P t v) same m.2)

no_after : {V : Type 0} (octet : ℕ) (octets : List ℕ) (F : Form V) → 58 < octet → NoColon (After (octet ∷ octets) F)
no_after octet octets F lt tokens rest v after e m = absurd (omega (arith, ap (λ (u : List (List ℕ)). get_or (get_or u 0 []) 0 0) (sym e ∙ m.1)))

no_then : {V W : Type 0} (F : Form V) (G : Form W) → NoColon F → NoColon (Then F G)
no_then F G never tokens rest v after e m = never tokens rest v.0 m.0 e m.1

no_register_then : {W : Type 0} (G : Form W) → NoColon (Then (Token IsRegister) G)
no_register_then G = no_then (Token IsRegister) G (no_token IsRegister no_register)

no_memory_then : {W : Type 0} (G : Form W) → NoColon (Then Memory G)
no_memory_then G = no_then Memory G (no_after 91 [] (Then (Token IsRegister) Bracket) (omega arith))

no_target_token : NoColon (Token IsTarget)
no_target_token = no_token IsTarget (λ w h. no_target 58 w refl refl h)

no_colon_operands : (l : Line) (n : Option (List ℕ)) (odd : Option ℕ) (operands rest : List (List ℕ)) → operands ≡ (58 ∷ []) ∷ rest → IsOperands (statement l n odd) operands → ⊥
no_colon_operands (line.Arithmetic w o dst operand) n odd operands rest e k = no_register_then (After (44 ∷ []) (Token IsSecond)) operands rest (dst, operand) [] e k.2
no_colon_operands (line.Negate w dst) n odd operands rest e k = no_token IsRegister no_register operands rest dst [] e k.2
no_colon_operands (line.MoveExtended x dst src) n odd operands rest e k = no_register_then (After (44 ∷ []) (Token IsRegister ⸴ Token IsNumeral)) operands rest (dst, (src, k.1)) [] e k.3
no_colon_operands (line.ByteOrder o s dst) n odd operands rest e k = no_register_then (After (44 ∷ []) (Token IsNumeral)) operands rest (dst, k.1) [] e k.3
no_colon_operands (line.Jump z) n odd operands rest e k = no_target_token operands rest (z, n) [] e k.1
no_colon_operands (line.LongJump z) n odd operands rest e k = no_target_token operands rest (z, n) [] e k.1
no_colon_operands (line.JumpIf w t dst operand z) n odd operands rest e k = no_register_then (After (44 ∷ []) (Token IsSecond ⸴ Token IsTarget)) operands rest (dst, (operand, (z, n))) [] e k.1
no_colon_operands (line.Call z) n odd operands rest e k = no_token IsImmediate (λ w h. no_number (58 ∷ []) w refl h) operands rest z [] e k.2
no_colon_operands (line.CallLocal z) n odd operands rest e k = no_after 108 (111 ∷ 99 ∷ 97 ∷ 108 ∷ []) (Token IsTarget) (omega arith) operands rest (z, n) [] e k.1
no_colon_operands line.Exit n odd operands rest e k = let f = k.2 in absurd cc
no_colon_operands (line.LoadWide dst value) n odd operands rest e k = no_register_then (After (44 ∷ []) (Token IsNumeral)) operands rest (dst, value) [] e k.2
no_colon_operands (line.Load s dst base z) n odd operands rest e k = no_register_then (After (44 ∷ []) Memory) operands rest (dst, (base, z)) [] e k.2
no_colon_operands (line.LoadExtended s dst base z) n odd operands rest e k = no_register_then (After (44 ∷ []) Memory) operands rest (dst, (base, z)) [] e k.2
no_colon_operands (line.StoreImmediate s base z value) n odd operands rest e k = no_memory_then (After (44 ∷ []) (Token IsImmediate)) operands rest ((base, z), value) [] e k.2
no_colon_operands (line.Store s base z src) n odd operands rest e k = no_memory_then (After (44 ∷ []) (Token IsRegister)) operands rest ((base, z), src) [] e k.2

no_colon_form : (s : Statement) (name : List ℕ) (rest tokens : List (List ℕ)) → tokens ≡ name ∷ (58 ∷ []) ∷ rest → IsForm s tokens → ⊥
no_colon_form s name rest tokens e k = let f = k.1 in let same : k.0 ≡ (58 ∷ []) ∷ rest = cc in no_colon_operands s.line s.name s.unknown_width k.0 rest same k.2

pub no_colon : (s : Option Statement) (name : List ℕ) (rest tokens : List (List ℕ)) → tokens ≡ name ∷ (58 ∷ []) ∷ rest → IsBody s tokens → ⊥
no_colon None name rest tokens e h = absurd cc
no_colon (Some s) name rest tokens e h = no_colon_form s name rest tokens e h

pub no_name : (tokens rest : List (List ℕ)) (name : List ℕ) → tokens ≡ name ∷ (58 ∷ []) ∷ rest → ¬ IsName name → (label : Option (List ℕ)) → (body : Option Statement) → HasLabel label body tokens → ⊥
no_name tokens rest name e bad None body h = no_colon body name rest tokens e h
no_name tokens rest name e bad (Some n) body (others, e', is, b) = let same : n ≡ name = cc in bad (subst IsName same is)

pub labelled_err : (tokens rest : List (List ℕ)) (name : List ℕ) (fault : LineFault) → tokens ≡ name ∷ (58 ∷ []) ∷ rest → IsName name → JudgesBody rest (Err fault) → JudgesTokens tokens (Err fault)
labelled_err tokens rest name Syntax e is judge = λ w h. by w.label w.body h
  where
    by : (label : Option (List ℕ)) → (body : Option Statement) → HasLabel label body tokens → ⊥
    by None body h = no_colon body name rest tokens e h
    by (Some n) body (others, e', is', b) = let same : others ≡ rest = cc in judge body (subst (IsBody body) same b)
labelled_err tokens rest name Range e is judge = (record { label = Some name; body = judge.0 }, (rest, e, is, judge.1), judge.2)

pub plain_err : (tokens : List (List ℕ)) (fault : LineFault) → ((name : List ℕ) → (others : List (List ℕ)) → tokens ≢ name ∷ (58 ∷ []) ∷ others) → JudgesBody tokens (Err fault) → JudgesTokens tokens (Err fault)
plain_err tokens Syntax none judge = λ w h. by w.label w.body h
  where
    by : (label : Option (List ℕ)) → (body : Option Statement) → HasLabel label body tokens → ⊥
    by None body h = judge body h
    by (Some n) body (others, e', is', b) = none n others e'
plain_err tokens Range none judge = (record { label = None; body = judge.0 }, judge.1, judge.2)

pub line_judged : (text : List ℕ) (tokens : List (List ℕ)) (r : Result LentLine LineFault) → HasTokens text tokens → JudgesTokens tokens r → JudgesLine text r
line_judged text tokens (Ok p) has judge = ((tokens, has, judge.0), judge.1)
line_judged text tokens (Err Syntax) has judge = λ w h. judge w (subst (HasLabel w.label w.body) (one_tokens text h.0 tokens h.1 has) h.2)
line_judged text tokens (Err Range) has judge = (judge.0, (tokens, has, judge.1), judge.2)

pub some_texts : (ts : List (Bor (List ℕ))) (b : Bool) → b ≡ eqb (length ts) 0 → b ≡ false → texts ts ≡ [] → ⊥
some_texts [] b e h k = absurd cc
some_texts (t ∷ ts) b e h k = absurd cc
