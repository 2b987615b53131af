-- The second pass, row by row.
use Rattle.std.proofs.Common.{◌≡◌, ◌<◌, ◌≤◌, ◌+◌, ◌++◌, ℕ, ℤ, pos, ◌-ℤ◌, Option, Some, None, zero, suc, List, [], ◌∷◌, length, take, drop, get_or, map, Ok, Err, refl, sym, ap, ◌∙◌, subst, take-append-drop, drop-cons, append-nil, arith}
use Rattle.std.proofs.Math.ListN.{drop_of_length-le}
use Rattle.std.proofs.lemmas.List.{take_more, map-append}
use Rattle.std.proofs.lemmas.List.Elements.{All-append, All-nil}
use Rattle.std.proofs.lemmas.Grind.{flat_map-append}
use Rattle.std.specs.List.{All}
use Rattle.std.specs.Prelude.{MatchOption}
use Rattle.std.specs.Option.{ok_or}
use Rattle.bpf_types.specs.declared.line.Line.{Line}
use Rattle.bpf_types.specs.Line.{spelling, IsLine}
use Rattle.bpf_decode.specs.Images.{image_of}
use Rattle.bpf_text.specs.Lines.{TextLine}
use Rattle.bpf_text.specs.Judged.{text_of}
use Rattle.bpf_assembler.specs.Text.{Entry, IsInstruction, AreInstructions, label_place, with_distance}
use Rattle.bpf_assembler.specs.Faults.{MissesLabel}
use Rattle.bpf_assembler.specs.declared.fault.Why.TheVariants as why
use Rattle.bpf_assembler.specs.Mirror.Passes.{Resolves, ResolvesAll, AreResolved, entry}
use Rattle.bpf_assembler.specs.declared.table.Row.{Row}
use Rattle.bpf_assembler.specs.declared.fault.AsmFault.{AsmFault}
use Rattle.bpf_assembler.specs.declared.fault.AsmFault.TheVariants.{Memory, At}

pub one_all : {X : Type 0} (P : X → Type 0) (x : X) → P x → All P (x ∷ [])
one_all P x h zero d lt = h
one_all P x h (suc k) d lt = absurd (omega arith)

one_more_line : (ws : List TextLine) (es : List Entry) (ls : List Line) (e : Entry) (l : Line) → AreInstructions ws es ls → IsInstruction ws e.place e.statement.line e.statement.name l → AreInstructions ws (es ++ e ∷ []) (ls ++ l ∷ [])
one_more_line ws [] [] e l h k = (k, tt)
one_more_line ws [] (x ∷ ls) e l h k = absurd h
one_more_line ws (f ∷ es) [] e l h k = absurd h
one_more_line ws (f ∷ es) (x ∷ ls) e l h k = (h.0, one_more_line ws es ls e l h.1 k)

image_after : (ls : List Line) (l : Line) → image_of (ls ++ l ∷ []) ≡ image_of ls ++ spelling l
image_after ls l = flat_map-append spelling ls (l ∷ []) ∙ ap (λ (t : List ℕ). image_of ls ++ t) (append-nil (spelling l))

pub none_resolved : (ws : List TextLine) → AreResolved ws [] []
none_resolved ws = record { lines = []; instructions = tt; image = record { ranges = All-nil IsLine; octets = refl } }

one_resolved : (ws : List TextLine) (es : List Entry) (e : Entry) (old new : List ℕ) (l : Line) → AreResolved ws es old → IsInstruction ws e.place e.statement.line e.statement.name l → IsLine l → new ≡ old ++ spelling l → AreResolved ws (es ++ e ∷ []) new
one_resolved ws es e old new l r h range is = record {
  lines = r.lines ++ l ∷ [];
  instructions = one_more_line ws es r.lines e l r.instructions h;
  image = record {
    ranges = All-append IsLine r.lines (l ∷ []) r.image.ranges (one_all IsLine l range);
    octets = is ∙ ap (λ (t : List ℕ). t ++ spelling l) r.image.octets ∙ sym (image_after r.lines l);
  };
}

-- the rows up to one, and that one
pub rows_after : (rows : List Row) (i : ℕ) (r : Row) → i < length rows → r ≡ get_or rows i r → map entry (take (i + 1) rows) ≡ map entry (take i rows) ++ entry r ∷ []
rows_after rows i r lt is = ap (map entry) (take_more rows i r lt) ∙ map-append entry (take i rows) (get_or rows i r ∷ []) ∙ ap (λ (x : Row). map entry (take i rows) ++ entry x ∷ []) (sym is)

-- the rows up to one, that one and the rest
rows_split : (rows : List Row) (i : ℕ) (r : Row) → i < length rows → r ≡ get_or rows i r → map entry rows ≡ map entry (take i rows) ++ entry r ∷ map entry (drop (suc i) rows)
rows_split rows i r lt is = ap (map entry) (sym (take-append-drop i rows)) ∙ map-append entry (take i rows) (drop i rows)
    ∙ ap (λ (t : List Row). map entry (take i rows) ++ map entry t) (drop-cons rows i r lt)
    ∙ ap (λ (x : Row). map entry (take i rows) ++ entry x ∷ map entry (drop (suc i) rows)) (sym is)

pub all_rows : (rows : List Row) (i : ℕ) → length rows ≤ i → take i rows ≡ rows
all_rows rows i le = sym (append-nil (take i rows)) ∙ ap (λ (r : List Row). take i rows ++ r) (sym (drop_of_length-le rows le)) ∙ take-append-drop i rows

pub row_resolved : (ws : List TextLine) (rows : List Row) (i : ℕ) (r : Row) (old new : List ℕ) (l : Line) → i < length rows → r ≡ get_or rows i r → AreResolved ws (map entry (take i rows)) old → Resolves ws (entry r) (Ok l)
    → IsLine l → new ≡ old ++ spelling l → AreResolved ws (map entry (take (i + 1) rows)) new
row_resolved ws rows i r old new l lt is h k range e = rw (rows_after rows i r lt is) (one_resolved ws (map entry (take i rows)) (entry r) old new l h k range e)

pub row_fault : (ws : List TextLine) (rows : List Row) (i : ℕ) (r : Row) (octets : List ℕ) (f : AsmFault) {Z : Type 0} (view : Z → List ℕ) → i < length rows → r ≡ get_or rows i r → AreResolved ws (map entry (take i rows)) octets → Resolves ws (entry r) (Err f)
    → ResolvesAll ws (map entry rows) view (Err f)
row_fault ws rows i r octets Memory view lt is h k = tt
row_fault ws rows i r octets (At n y) view lt is h k = record {
  before = map entry (take i rows);
  entry = entry r;
  after = map entry (drop (suc i) rows);
  earlier = h.lines;
  order = rows_split rows i r lt is;
  instructions = h.instructions;
  counted = k.0;
  miss = k.1;
}

pub all_resolved : (ws : List TextLine) (rows : List Row) (i : ℕ) (octets : List ℕ) → length rows ≤ i → AreResolved ws (map entry (take i rows)) octets → AreResolved ws (map entry rows) octets
all_resolved ws rows i octets le h = subst (λ (r : List Row). AreResolved ws (map entry r) octets) (all_rows rows i le) h

-- the instruction of a row that names a label: with its distance, or none if that is not in range
pub named_row : (ws : List TextLine) (row : Row) (name : List ℕ) (to : ℕ) (distance : ℤ) (o : Option Line) (f : AsmFault) → text_of row.name ≡ Some name → label_place name 0 ws ≡ Some to → distance ≡ pos to -ℤ pos (row.place + 1)
    → MatchOption o (¬ IsLine (with_distance row.line distance)) (λ l. (l ≡ with_distance row.line distance) × IsLine l) → f ≡ At row.number why.Range → Resolves ws (entry row) (ok_or o f)
named_row ws row name to distance (Some l) f e place d m is = subst (λ (n : Option (List ℕ)). IsInstruction ws row.place row.line n l) (sym e) (to, place, m.1, m.0 ∙ ap (with_distance row.line) d)
named_row ws row name to distance None f e place d m is = subst (λ (g : AsmFault). Resolves ws (entry row) (Err g)) (sym is)
    (refl, subst (λ (n : Option (List ℕ)). MissesLabel ws row.place row.line n why.Range) (sym e) (to, place, subst (λ (z : ℤ). ¬ IsLine (with_distance row.line z)) d m))

-- a row that names no label of the text
pub unnamed_row : (ws : List TextLine) (row : Row) (name : List ℕ) (f : AsmFault) → text_of row.name ≡ Some name → label_place name 0 ws ≡ None → f ≡ At row.number why.UnknownLabel → Resolves ws (entry row) (Err f)
unnamed_row ws row name f e none is = subst (λ (g : AsmFault). Resolves ws (entry row) (Err g)) (sym is)
    (refl, subst (λ (n : Option (List ℕ)). MissesLabel ws row.place row.line n why.UnknownLabel) (sym e) none)
