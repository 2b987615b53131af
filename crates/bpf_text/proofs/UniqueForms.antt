-- The operands of an instruction are read in one way.
use Rattle.std.proofs.Common.{◌≡◌, ℕ, List, [], ◌∷◌, sym, ◌∙◌, subst, inl, inr}
use Rattle.bpf_text.specs.Number.{IsNumeral}
use Rattle.bpf_text.specs.Fields.{IsRegister, IsImmediate, IsSecond, IsDistance, IsTarget}
use Rattle.bpf_text.specs.Grammar.{Form, Token, After, Then, ◌⸴◌, Bracket, Memory}
use Rattle.bpf_text.proofs.FieldLemmas.{no_closing}
use Rattle.bpf_text.proofs.UniqueFields.{one_numeral, one_register, one_immediate, one_second, one_distance, one_target}

-- a token is read in one way
abbrev pub One : {V : Type 0} → (List ℕ → V → Type 0) → Type 0
One {V} P = (t : List ℕ) (v w : V) → P t v → P t w → v ≡ w

-- a form is read in one way, and the same tokens are left
abbrev pub OneForm : {V : Type 0} → Form V → Type 0
OneForm {V} F = (tokens : List (List ℕ)) (v w : V) (rest others : List (List ℕ)) → F tokens v rest → F tokens w others → (v ≡ w) × (rest ≡ others)

one_token : {V : Type 0} (P : List ℕ → V → Type 0) → One P → OneForm (Token P)
one_token P one tokens v w rest others (a, e, p) (b, f, q) =
    let same : b ≡ a = cc in
    let left : rest ≡ others = cc in
    (one a v w p (subst (λ t. P t w) same q), left)

pub one_after : {V : Type 0} (mark : List ℕ) (F : Form V) → OneForm F → OneForm (After mark F)
one_after mark F one tokens v w rest others (a, e, p) (b, f, q) =
    let same : b ≡ a = cc in
    one a v w rest others p (subst (λ t. F t w others) same q)

one_then : {V W : Type 0} (F : Form V) (G : Form W) → OneForm F → OneForm G → OneForm (Then F G)
one_then F G one two tokens v w rest others (a, p, q) (b, r, s) =
    let x = one tokens v.0 w.0 a b p r in
    let y = two a v.1 w.1 rest others q (subst (λ t. G t w.1 others) (sym x.1) s) in
    (λ i. (x.0 i, y.0 i), y.1)

pub one_list : {V W : Type 0} (F : Form V) (G : Form W) → OneForm F → OneForm G → OneForm (F ⸴ G)
one_list F G one two = one_then F (After (44 ∷ []) G) one (one_after (44 ∷ []) G two)

one_bracket : OneForm Bracket
one_bracket tokens v w rest others (inl h) (inl k) =
    let e = h.0 in
    let f = k.0 in
    let left : rest ≡ others = cc in
    (h.1 ∙ sym k.1, left)
one_bracket tokens v w rest others (inl h) (inr k) =
    let e = h.0 in
    let f = k.1 in
    let same : k.0 ≡ 93 ∷ [] = cc in
    absurd (no_closing k.0 w same k.2)
one_bracket tokens v w rest others (inr h) (inl k) =
    let e = h.1 in
    let f = k.0 in
    let same : h.0 ≡ 93 ∷ [] = cc in
    absurd (no_closing h.0 v same h.2)
one_bracket tokens v w rest others (inr (a, e, p)) (inr (b, f, q)) =
    let same : b ≡ a = cc in
    let left : rest ≡ others = cc in
    (one_distance a v w p (subst (λ t. IsDistance t w) same q), left)

pub register_form : OneForm (Token IsRegister)
register_form = one_token IsRegister one_register

pub second_form : OneForm (Token IsSecond)
second_form = one_token IsSecond one_second

pub numeral_form : OneForm (Token IsNumeral)
numeral_form = one_token IsNumeral one_numeral

pub immediate_form : OneForm (Token IsImmediate)
immediate_form = one_token IsImmediate one_immediate

pub target_form : OneForm (Token IsTarget)
target_form = one_token IsTarget one_target

pub memory_form : OneForm Memory
memory_form = one_after (91 ∷ []) (Then (Token IsRegister) Bracket) (one_then (Token IsRegister) Bracket register_form one_bracket)
