-- Labels of one more line.
use Rattle.std.proofs.Common.{◌≡◌, ◌+◌, ◌++◌, ℕ, List, [], ◌∷◌, length, Option, Some, None, Bool, true, false, cond, is_some, not, Ok, refl, sym, ap, ◌∙◌, subst, arith, append_assoc, append-nil, length-append, suc, map}
use Rattle.std.specs.BTreeMap.{BTreeMap}
use Rattle.std.specs.Str.{bytes_eq}
use Rattle.std.proofs.lemmas.Slice.Eq.{bytes_eq-Decides}
use Rattle.std.proofs.Common.{Bor}
use Rattle.bpf_text.specs.Lines.{TextLine, Statement, Writes, InRange}
use Rattle.bpf_assembler.specs.Mirror.Tables.{label_at}
use Rattle.bpf_assembler.specs.Text.{label_place, end_of, entries_of, entry_of, Entry, has_label, slots, IsNew, AreDistinct, EachWritten}
use Rattle.bpf_assembler.specs.Mirror.Passes.{AreLabels, PutsLabel, Knows, entry}
use Rattle.bpf_assembler.specs.declared.table.Row.{Row}

-- the place of a name in one more line
place_after : (name : List ℕ) (place : ℕ) (ws : List TextLine) (w : TextLine) → label_place name place ws ≡ None
    → label_place name place (ws ++ w ∷ []) ≡ cond (has_label name w.label) (Some (end_of place ws)) None
place_after name place [] w e = refl
place_after name place (v ∷ ws) w e = by (has_label name v.label) (place_after name (place + slots v.body) ws w) e
  where
    by : (b : Bool) → (label_place name (place + slots v.body) ws ≡ None → label_place name (place + slots v.body) (ws ++ w ∷ []) ≡ cond (has_label name w.label) (Some (end_of (place + slots v.body) ws)) None)
        → cond b (Some place) (label_place name (place + slots v.body) ws) ≡ None
        → cond b (Some place) (label_place name (place + slots v.body) (ws ++ w ∷ [])) ≡ cond (has_label name w.label) (Some (end_of (place + slots v.body) ws)) None
    by true ih e = absurd cc
    by false ih e = ih e

place_before : (name : List ℕ) (place : ℕ) (ws : List TextLine) (w : TextLine) (to : ℕ) → label_place name place ws ≡ Some to → label_place name place (ws ++ w ∷ []) ≡ Some to
place_before name place [] w to e = absurd cc
place_before name place (v ∷ ws) w to e = by (has_label name v.label) (place_before name (place + slots v.body) ws w to) e
  where
    by : (b : Bool) → (label_place name (place + slots v.body) ws ≡ Some to → label_place name (place + slots v.body) (ws ++ w ∷ []) ≡ Some to)
        → cond b (Some place) (label_place name (place + slots v.body) ws) ≡ Some to → cond b (Some place) (label_place name (place + slots v.body) (ws ++ w ∷ [])) ≡ Some to
    by true ih e = e
    by false ih e = ih e

other_label : (name : List ℕ) (ws : List TextLine) (w : TextLine) → has_label name w.label ≡ false → (o : Option ℕ) → label_place name 0 ws ≡ o → o ≡ label_place name 0 (ws ++ w ∷ [])
other_label name ws w other None e = sym (place_after name 0 ws w e ∙ ap (λ (b : Bool). cond b (Some (end_of 0 ws)) None) other)
other_label name ws w other (Some to) e = sym (place_before name 0 ws w to e)

-- no label on the line
pub no_label : (m : BTreeMap (Bor (List ℕ)) ℕ) (ws : List TextLine) (body : Option Statement) → AreLabels m ws → AreLabels m (ws ++ record { label = None; body = body } ∷ [])
no_label m ws body known name = known name ∙ other_label name ws (record { label = None; body = body }) refl (label_place name 0 ws) refl

-- a new label
pub new_label : (m n : BTreeMap (Bor (List ℕ)) ℕ) (ws : List TextLine) (label : List ℕ) (place : ℕ) (body : Option Statement) → AreLabels m ws → place ≡ end_of 0 ws → label_place label 0 ws ≡ None
    → ((q : List ℕ) → label_at n q ≡ cond (bytes_eq label q) (Some place) (label_at m q)) → AreLabels n (ws ++ record { label = Some label; body = body } ∷ [])
new_label m n ws label place body known at none put name = put name ∙ by (bytes_eq label name) refl
  where
    by : (b : Bool) → bytes_eq label name ≡ b → cond (bytes_eq label name) (Some place) (label_at m name) ≡ label_place name 0 (ws ++ record { label = Some label; body = body } ∷ [])
    by true e =
        let same : label ≡ name = (bytes_eq-Decides label name).0 e in
        rw e (ap Some at ∙ sym (place_after name 0 ws (record { label = Some label; body = body }) (subst (λ (t : List ℕ). label_place t 0 ws ≡ None) same none) ∙ ap (λ (b : Bool). cond b (Some (end_of 0 ws)) None) e))
    by false e = rw e (known name ∙ other_label name ws (record { label = Some label; body = body }) e (label_place name 0 ws) refl)

-- a label that is put: it is new if it had no place
pub label_put : (m n : BTreeMap (Bor (List ℕ)) ℕ) (ws : List TextLine) (label : List ℕ) (place : ℕ) (old : Option ℕ) (new : Bool) → AreLabels m ws → place ≡ end_of 0 ws → old ≡ label_at m label → is_some old ≡ not new
    → ((q : List ℕ) → label_at n q ≡ cond (bytes_eq label q) (Some place) (label_at m q)) → PutsLabel (Some label) n ws (Ok new)
label_put m n ws label place None true known at had is put =
    let none : label_place label 0 ws ≡ None = sym (known label) ∙ sym had in
    (none, λ body. new_label m n ws label place body known at none put)
label_put m n ws label place None false known at had is put = absurd cc
label_put m n ws label place (Some to) true known at had is put = absurd cc
label_put m n ws label place (Some to) false known at had is put = λ none.
    let e : Some to ≡ None = had ∙ known label ∙ none in
    absurd cc

-- the instructions of one more line
pub entries_after : (number place : ℕ) (ws : List TextLine) (w : TextLine) → entries_of number place (ws ++ w ∷ []) ≡ entries_of number place ws ++ entry_of (number + length ws) (end_of place ws) w.body
entries_after number place [] w = append-nil (entry_of number place w.body) ∙ ap (λ (n : ℕ). entry_of n place w.body) (let e : number ≡ number + 0 = omega arith in e)
entries_after number place (v ∷ ws) w =
    ap (λ (es : List Entry). entry_of number place v.body ++ es) (entries_after (number + 1) (place + slots v.body) ws w
    ∙ ap (λ (n : ℕ). entries_of (number + 1) (place + slots v.body) ws ++ entry_of n (end_of (place + slots v.body) ws) w.body) (let e : number + 1 + length ws ≡ number + suc (length ws) = omega arith in e))
    ∙ sym (append_assoc (entry_of number place v.body) (entries_of (number + 1) (place + slots v.body) ws) (entry_of (number + suc (length ws)) (end_of (place + slots v.body) ws) w.body))

pub end_after : (place : ℕ) (ws : List TextLine) (w : TextLine) → end_of place (ws ++ w ∷ []) ≡ end_of place ws + slots w.body
end_after place [] w = refl
end_after place (v ∷ ws) w = end_after (place + slots v.body) ws w

pub distinct_after : (before ws : List TextLine) (w : TextLine) → AreDistinct before ws → IsNew w.label (before ++ ws) → AreDistinct before (ws ++ w ∷ [])
distinct_after before [] w d new = (subst (IsNew w.label) (append-nil before) new, tt)
distinct_after before (v ∷ ws) w d new = (d.0, distinct_after (before ++ v ∷ []) ws w d.1 (subst (IsNew w.label) (sym (append_assoc before (v ∷ []) ws)) new))

pub written_after : (ls : List (List ℕ)) (ws : List TextLine) (l : List ℕ) (w : TextLine) → EachWritten ls ws → Writes l w → InRange w.body → EachWritten (ls ++ l ∷ []) (ws ++ w ∷ [])
written_after [] [] l w each h r = (h, r, tt)
written_after [] (v ∷ ws) l w each h r = absurd each
written_after (k ∷ ls) [] l w each h r = absurd each
written_after (k ∷ ls) (v ∷ ws) l w each h r = (each.0, each.1, written_after ls ws l w each.2 h r)

pub known_after : (m n : BTreeMap (Bor (List ℕ)) ℕ) (rs ss : List Row) (k k' p p' : ℕ) (ws : List TextLine) (w : TextLine) → Knows m rs k p ws → IsNew w.label ws → AreLabels n (ws ++ w ∷ [])
    → map entry ss ≡ map entry rs ++ entry_of (k + 1) p w.body → k' ≡ k + 1 → p' ≡ p + slots w.body → Knows n ss k' p' (ws ++ w ∷ [])
known_after m n rs ss k k' p p' ws w known new labels rows count place = record {
  labels = labels;
  rows = rows ∙ ap (λ (es : List Entry). es ++ entry_of (k + 1) p w.body) known.rows
      ∙ ap (λ (q : ℕ). entries_of 1 0 ws ++ entry_of (k + 1) q w.body) known.place
      ∙ ap (λ (q : ℕ). entries_of 1 0 ws ++ entry_of q (end_of 0 ws) w.body) (let h = known.count in let e : k + 1 ≡ 1 + length ws = omega arith in e)
      ∙ sym (entries_after 1 0 ws w);
  count = let h = known.count in omega (arith, length-append ws (w ∷ []), count, h);
  place = place ∙ ap (λ (q : ℕ). q + slots w.body) known.place ∙ sym (end_after 0 ws w);
  distinct = distinct_after [] ws w known.distinct new;
}
