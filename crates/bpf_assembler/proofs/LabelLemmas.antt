-- Labels and the jumps that name them.
use Rattle.std.proofs.Common.{◌≡◌, ◌+◌, ℕ, ℤ, suc, pos, ◌-ℤ◌, ◌+ℤ◌, List, [], ◌∷◌, ◌++◌, length, take, Option, Some, None, Bool, true, false, cond, ◌↔◌, refl, sym, ap, ◌∙◌, subst, arith, append_assoc, append-nil, length-append}
use Rattle.std.proofs.Math.IntN.{+ℤ_comm, -ℤ-+ℤ_cancel}
use Rattle.std.proofs.lemmas.Slice.Eq.{bytes_eq-Decides}
use Rattle.bpf_types.specs.declared.line.Line.{Line}
use Rattle.bpf_types.specs.declared.line.Line.TheVariants as line
use Rattle.bpf_types.specs.Line.{is_wide, slots_if}
use Rattle.ocp_loader.specs.Image.{second_of, slots_of, by_slot, target_of}
use Rattle.ocp_loader.specs.Places.{place_of}
use Rattle.bpf_text.specs.Lines.{TextLine, Writes, HasLabel, Statement, IsOperands, IsForm}
use Rattle.text_lines.specs.Lines.{line_texts}
use Rattle.bpf_assembler.specs.Text.{EachWritten, label_place, has_label, slots, end_of, IsNew, AreDistinct, entry_of, entries_of, with_distance, with_target, IsInstruction, AreInstructions, IsWritten}
use Rattle.bpf_assembler.specs.Labels.{and_then, statements, IsLabelAt, IsMeantBy}

-- what the law of the loader states about places
abbrev pub AreCounted : Type 0
AreCounted = (before : List Line) → place_of before ≡ length (by_slot before)

-- ---- slots

wide_aimed : (l : Line) (z : ℤ) → is_wide (with_distance l z) ≡ is_wide l
wide_aimed (line.Jump y) z = refl
wide_aimed (line.LoadWide dst n) z = refl
wide_aimed _ z = refl

wide_same : (all : List TextLine) (place : ℕ) (given l : Line) (name : Option (List ℕ)) → IsInstruction all place given name l → is_wide l ≡ is_wide given
wide_same all place given l None h = ap is_wide h
wide_same all place given l (Some name) h = ap is_wide h.3 ∙ wide_aimed given _

slots_more : (b : Bool) (l : Line) (ls : List Line) → is_wide l ≡ b → length (by_slot (l ∷ ls)) ≡ slots_if b + length (by_slot ls)
slots_more true l ls e = length-append (slots_of l) (by_slot ls) ∙ ap (λ (c : Bool). suc (length (second_of c)) + length (by_slot ls)) e
slots_more false l ls e = length-append (slots_of l) (by_slot ls) ∙ ap (λ (c : Bool). suc (length (second_of c)) + length (by_slot ls)) e

-- the place of a line is the number of slots of the instructions before it
end_slots : (all : List TextLine) (n p : ℕ) (before rest : List TextLine) (ls : List Line) → AreInstructions all (entries_of n p (before ++ rest)) ls → end_of p before ≡ p + length (by_slot (take (length (statements before)) ls))
end_slots all n p [] rest ls h = omega arith
end_slots all n p (w ∷ before) rest ls h = by w.body ls (λ q k. end_slots all (n + 1) q before rest k) h
  where
    by : (s : Option Statement) (ls : List Line) → ((q : ℕ) (k : List Line) → AreInstructions all (entries_of (n + 1) q (before ++ rest)) k → end_of q before ≡ q + length (by_slot (take (length (statements before)) k)))
        → AreInstructions all (entry_of n p s ++ entries_of (n + 1) (p + slots s) (before ++ rest)) ls
        → end_of (p + slots s) before ≡ p + length (by_slot (take (length (and_then s (statements before))) ls))
    by None ls ih h = let same : p + 0 ≡ p = omega arith in ih (p + 0) ls h ∙ ap (λ (q : ℕ). q + length (by_slot (take (length (statements before)) ls))) same
    by (Some s) [] ih h = absurd h
    by (Some s) (l ∷ ls) ih h =
        let more = slots_more (is_wide s.line) l (take (length (statements before)) ls) (wide_same all p s.line l s.name h.0) in
        let others = ih (p + slots (Some s)) ls h.1 in
        omega (arith, more, others)

-- ---- labels

-- the first line with the label
found_at : (name : List ℕ) (p to : ℕ) (ws : List TextLine) → label_place name p ws ≡ Some to → (before : List TextLine) × (w : TextLine) × (after : List TextLine) × (ws ≡ before ++ w ∷ after) × (w.label ≡ Some name) × (to ≡ end_of p before)
found_at name p to [] h = absurd cc
found_at name p to (w ∷ ws) h = by_test (has_label name w.label) refl (found_at name (p + slots w.body) to ws) h
  where
    named : (a : Option (List ℕ)) → has_label name a ≡ true → a ≡ Some name
    named None e = absurd cc
    named (Some label) e = ap Some ((bytes_eq-Decides label name).0 e)

    by_test : (b : Bool) → has_label name w.label ≡ b → (label_place name (p + slots w.body) ws ≡ Some to → (before : List TextLine) × (v : TextLine) × (after : List TextLine) × (ws ≡ before ++ v ∷ after) × (v.label ≡ Some name) × (to ≡ end_of (p + slots w.body) before))
        → cond b (Some p) (label_place name (p + slots w.body) ws) ≡ Some to → (before : List TextLine) × (v : TextLine) × (after : List TextLine) × (w ∷ ws ≡ before ++ v ∷ after) × (v.label ≡ Some name) × (to ≡ end_of p before)
    by_test true e ih h = ([], w, ws, refl, named w.label e, (let q : to ≡ p = cc in q))
    by_test false e ih h = let q = ih h in (w ∷ q.0, q.1, q.2, ap (λ (vs : List TextLine). w ∷ vs) q.3, q.4, q.5)

-- a later label is new after the lines before it
new_at : (done before after : List TextLine) (w : TextLine) → AreDistinct done (before ++ w ∷ after) → IsNew w.label (done ++ before)
new_at done [] after w d = subst (IsNew w.label) (sym (append-nil done)) d.0
new_at done (v ∷ before) after w d = subst (IsNew w.label) (append_assoc done (v ∷ []) before) (new_at (done ++ v ∷ []) before after w d.1)

self_named : (name : List ℕ) (a : Option (List ℕ)) → a ≡ Some name → has_label name a ≡ true
self_named name None e = absurd cc
self_named name (Some label) e = (bytes_eq-Decides label name).1 (cc)

-- so the line is the first with its label
first_at : (name : List ℕ) (p : ℕ) (before after : List TextLine) (w : TextLine) → label_place name p before ≡ None → w.label ≡ Some name → label_place name p (before ++ w ∷ after) ≡ Some (end_of p before)
first_at name p [] after w none is = ap (λ (b : Bool). cond b (Some p) (label_place name (p + slots w.body) after)) (self_named name w.label is)
first_at name p (v ∷ before) after w none is = by (has_label name v.label) (λ e. first_at name (p + slots v.body) before after w e is) none
  where
    by : (b : Bool) → (label_place name (p + slots v.body) before ≡ None → label_place name (p + slots v.body) (before ++ w ∷ after) ≡ Some (end_of (p + slots v.body) before))
        → cond b (Some p) (label_place name (p + slots v.body) before) ≡ None → cond b (Some p) (label_place name (p + slots v.body) (before ++ w ∷ after)) ≡ Some (end_of (p + slots v.body) before)
    by true ih e = absurd cc
    by false ih e = ih e

end_place : AreCounted → (ws before after : List TextLine) (w : TextLine) (ls : List Line) → ws ≡ before ++ w ∷ after → AreInstructions ws (entries_of 1 0 ws) ls → end_of 0 before ≡ place_of (take (length (statements before)) ls)
end_place counted ws before after w ls e is =
    end_slots ws 1 0 before (w ∷ after) ls (subst (λ (vs : List TextLine). AreInstructions ws (entries_of 1 0 vs) ls) e is)
    ∙ (let none : 0 + length (by_slot (take (length (statements before)) ls)) ≡ length (by_slot (take (length (statements before)) ls)) = omega arith in none)
    ∙ sym (counted (take (length (statements before)) ls))

pub label_at : AreCounted → (text : List ℕ) (ws : List TextLine) (ls : List Line) (name : List ℕ) (place : ℕ) → IsWritten text ws → AreInstructions ws (entries_of 1 0 ws) ls → (label_place name 0 ws ≡ Some place) ↔ IsLabelAt name ws ls place
label_at counted text ws ls name place h is = (
  λ e. let q = found_at name 0 place ws e in record { before = q.0; line = q.1; after = q.2; order = q.3; label = q.4; slots = q.5 ∙ end_place counted ws q.0 q.2 q.1 ls q.3 is },
  λ k.
      let new = new_at [] k.before k.after k.line (subst (AreDistinct []) k.order h.distinct) in
      let none : label_place name 0 k.before ≡ None = subst (λ (a : Option (List ℕ)). IsNew a k.before) k.label new in
      ap (label_place name 0) k.order ∙ first_at name 0 k.before k.after k.line none k.label ∙ ap (λ (x : ℕ). Some x) (end_place counted ws k.before k.after k.line ls k.order is ∙ sym k.slots),
)

-- ---- jumps

-- the k-th instruction is the k-th line, at its place
meant_at : (all : List TextLine) (n p : ℕ) (ws : List TextLine) (a b : List Statement) (s : Statement) (c d : List Line) (l : Line) → statements ws ≡ a ++ s ∷ b → AreInstructions all (entries_of n p ws) (c ++ l ∷ d) → length a ≡ length c
    → IsInstruction all (p + length (by_slot c)) s.line s.name l
meant_at all n p [] [] b s c d l e h same = absurd cc
meant_at all n p [] (x ∷ a) b s c d l e h same = absurd cc
meant_at all n p (w ∷ ws) a b s c d l e h same = by w.body a c (λ q a c. meant_at all (n + 1) q ws a b s c d l) e h same
  where
    by : (body : Option Statement) (a : List Statement) (c : List Line)
        → ((q : ℕ) (a : List Statement) (c : List Line) → statements ws ≡ a ++ s ∷ b → AreInstructions all (entries_of (n + 1) q ws) (c ++ l ∷ d) → length a ≡ length c → IsInstruction all (q + length (by_slot c)) s.line s.name l)
        → and_then body (statements ws) ≡ a ++ s ∷ b → AreInstructions all (entry_of n p body ++ entries_of (n + 1) (p + slots body) ws) (c ++ l ∷ d) → length a ≡ length c → IsInstruction all (p + length (by_slot c)) s.line s.name l
    by None a c ih e h same = let nil : p + 0 ≡ p = omega arith in subst (λ (q : ℕ). IsInstruction all (q + length (by_slot c)) s.line s.name l) nil (ih (p + 0) a c e h same)
    by (Some t) [] [] ih e h same = let nil : p ≡ p + 0 = omega arith in let one : t ≡ s = cc in subst (λ (q : ℕ). IsInstruction all q s.line s.name l) nil (subst (λ (x : Statement). IsInstruction all p x.line x.name l) one h.0)
    by (Some t) [] (y ∷ c) ih e h same = absurd (omega arith)
    by (Some t) (x ∷ a) [] ih e h same = absurd (omega arith)
    by (Some t) (x ∷ a) (y ∷ c) ih e h same =
        let more = slots_more (is_wide t.line) y c (wide_same all p t.line y t.name h.0) in
        let sum : p + slots (Some t) + length (by_slot c) ≡ p + length (by_slot (y ∷ c)) = omega (arith, more) in
        subst (λ (q : ℕ). IsInstruction all q s.line s.name l) sum (ih (p + slots (Some t)) a c (cc) h.1 (let e : length a ≡ length c = omega arith in e))

there_and_back : (slot to : ℕ) → pos (slot + 1) +ℤ (pos to -ℤ pos (slot + 1)) ≡ pos to
there_and_back slot to = +ℤ_comm (pos (slot + 1)) (pos to -ℤ pos (slot + 1)) ∙ -ℤ-+ℤ_cancel (pos to) (pos (slot + 1))

-- an instruction that names a label is a jump or a local call
named_target : (given : Line) (name : List ℕ) (odd : Option ℕ) (tokens : List (List ℕ)) (slot to : ℕ) → IsOperands (record { line = given; name = Some name; unknown_width = odd }) tokens → target_of slot (with_target given slot to) ≡ Some (pos to)
named_target (line.Jump z) name odd tokens slot to h = ap (λ (x : ℤ). Some x) (there_and_back slot to)
named_target (line.LongJump z) name odd tokens slot to h = ap (λ (x : ℤ). Some x) (there_and_back slot to)
named_target (line.JumpIf w t dst x z) name odd tokens slot to h = ap (λ (x : ℤ). Some x) (there_and_back slot to)
named_target (line.CallLocal z) name odd tokens slot to h = ap (λ (x : ℤ). Some x) (there_and_back slot to)
named_target (line.Arithmetic w o dst x) name odd tokens slot to h = let e = h.0 in absurd cc
named_target (line.Negate w dst) name odd tokens slot to h = let e = h.0 in absurd cc
named_target (line.MoveExtended x dst src) name odd tokens slot to h = let e = h.0 in absurd cc
named_target (line.ByteOrder o s dst) name odd tokens slot to h = let e = h.0 in absurd cc
named_target (line.Call z) name odd tokens slot to h = let e = h.0 in absurd cc
named_target line.Exit name odd tokens slot to h = let e = h.0 in absurd cc
named_target (line.LoadWide dst n) name odd tokens slot to h = let e = h.0 in absurd cc
named_target (line.Load s dst base z) name odd tokens slot to h = let e = h.0 in absurd cc
named_target (line.LoadExtended s dst base z) name odd tokens slot to h = let e = h.0 in absurd cc
named_target (line.StoreImmediate s base z y) name odd tokens slot to h = let e = h.0 in absurd cc
named_target (line.Store s base z src) name odd tokens slot to h = let e = h.0 in absurd cc

abbrev IsFormed : Statement → Type 0
IsFormed s = (tokens : List (List ℕ)) × IsForm s tokens

formed_body : (text : List ℕ) (w : TextLine) (s : Statement) → w.body ≡ Some s → Writes text w → IsFormed s
formed_body text w s e h = by w.label (subst (λ (b : Option Statement). HasLabel w.label b h.0) e h.2)
  where
    by : (a : Option (List ℕ)) → HasLabel a (Some s) h.0 → IsFormed s
    by None k = (h.0, k)
    by (Some name) k = (k.0, k.3)

formed_at : (ls : List (List ℕ)) (ws : List TextLine) (a b : List Statement) (s : Statement) → EachWritten ls ws → statements ws ≡ a ++ s ∷ b → IsFormed s
formed_at [] [] [] b s h e = absurd cc
formed_at [] [] (x ∷ a) b s h e = absurd cc
formed_at [] (w ∷ ws) a b s h e = absurd h
formed_at (t ∷ ls) [] a b s h e = absurd h
formed_at (t ∷ ls) (w ∷ ws) a b s h e = by w.body refl a (λ a. formed_at ls ws a b s h.2) e
  where
    by : (body : Option Statement) → w.body ≡ body → (a : List Statement) → ((a : List Statement) → statements ws ≡ a ++ s ∷ b → IsFormed s) → and_then body (statements ws) ≡ a ++ s ∷ b → IsFormed s
    by None is a ih e = ih a e
    by (Some x) is [] ih e = let same : x ≡ s = cc in formed_body t w s (is ∙ ap Some same) h.0
    by (Some x) is (y ∷ a) ih e = ih a (cc)

pub meant_by : AreCounted → (text : List ℕ) (ws : List TextLine) (ls : List Line) (a b : List Statement) (s : Statement) (c d : List Line) (l : Line) → IsWritten text ws → AreInstructions ws (entries_of 1 0 ws) ls → statements ws ≡ a ++ s ∷ b → ls ≡ c ++ l ∷ d → length a ≡ length c
    → IsMeantBy ws ls (place_of c) s.line s.name l
meant_by counted text ws ls a b s c d l h is e f same =
    let at = meant_at ws 1 0 ws a b s c d l e (subst (AreInstructions ws (entries_of 1 0 ws)) f is) same in
    let form = formed_at (line_texts text) ws a b s h.each e in
    by s.name (subst (λ (p : ℕ). IsInstruction ws p s.line s.name l) (let none : 0 + length (by_slot c) ≡ length (by_slot c) = omega arith in none ∙ sym (counted c)) at) form.1.0 form.1.2
  where
    by : (name : Option (List ℕ)) → IsInstruction ws (place_of c) s.line name l → (operands : List (List ℕ)) → IsOperands (record { line = s.line; name = name; unknown_width = s.unknown_width }) operands → IsMeantBy ws ls (place_of c) s.line name l
    by None k operands o = k
    by (Some name) k operands o = (k.0, (label_at counted text ws ls name k.0 h is).0 k.1, k.3, ap (target_of (place_of c)) k.3 ∙ named_target s.line name s.unknown_width operands (place_of c) k.0 o)
