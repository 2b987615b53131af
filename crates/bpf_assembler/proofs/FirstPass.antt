-- The first pass, line by line.
use Rattle.std.proofs.Common.{◌≡◌, ◌+◌, ℕ, suc, List, [], ◌∷◌, length, Ok, Err, refl, ap, subst, arith}
use Rattle.std.specs.BTreeMap.{BTreeMap}
use Rattle.std.proofs.Common.{Bor}
use Rattle.bpf_text.specs.Lines.{TextLine}
use Rattle.text_lines.specs.Lines.{line_texts}
use Rattle.bpf_assembler.specs.Text.{EachWritten}
use Rattle.bpf_assembler.specs.Faults.{HasLineFault}
use Rattle.bpf_assembler.specs.Mirror.Passes.{Knows, Adds, IsCollected, IsFaultOfLines}
use Rattle.bpf_assembler.specs.declared.table.Row.{Row}
use Rattle.bpf_assembler.specs.declared.fault.AsmFault.{AsmFault}
use Rattle.bpf_assembler.specs.declared.fault.AsmFault.TheVariants.{Memory, At}
use Rattle.bpf_assembler.proofs.Progress.{Progress, at_start, one_more, at_fault, at_end}

-- the lines so far are written so, and known
pub record Taken (text rest : List ℕ) (m : BTreeMap (Bor (List ℕ)) ℕ) (rs : List Row) (n p : ℕ) : Type 0 where
  pub lines : Progress text rest
  pub known : Knows m rs n p lines.written

pub length_each : (ls : List (List ℕ)) (ws : List TextLine) → EachWritten ls ws → length ls ≡ length ws
length_each [] [] h = refl
length_each [] (w ∷ ws) h = absurd h
length_each (l ∷ ls) [] h = absurd h
length_each (l ∷ ls) (w ∷ ws) h = ap suc (length_each ls ws h.2)

pub none_taken : (text : List ℕ) (m : BTreeMap (Bor (List ℕ)) ℕ) (rs : List Row) (n p : ℕ) → Knows m rs n p [] → Taken text text m rs n p
none_taken text m rs n p known = record { lines = at_start text; known = known }

pub one_taken : (text rest line after : List ℕ) (m m' : BTreeMap (Bor (List ℕ)) ℕ) (rs rs' : List Row) (n n' p p' : ℕ) (u : Unit {0}) → Taken text rest m rs n p → line_texts rest ≡ line ∷ line_texts after
    → ((ws : List TextLine) → Knows m rs n p ws → Adds line m' rs' n' p' ws (Ok u)) → Taken text after m' rs' n' p'
one_taken text rest line after m m' rs rs' n n' p p' u t e add =
    let a = add t.lines.written t.known in
    record { lines = one_more text rest line after a.0 t.lines e a.1 a.2 a.3.distinct; known = a.3 }

pub fault_taken : (text rest line after : List ℕ) (m m' : BTreeMap (Bor (List ℕ)) ℕ) (rs rs' : List Row) (n n' p p' : ℕ) (f : AsmFault) → Taken text rest m rs n p → line_texts rest ≡ line ∷ line_texts after
    → ((ws : List TextLine) → Knows m rs n p ws → Adds line m' rs' n' p' ws (Err f)) → IsFaultOfLines text f
fault_taken text rest line after m m' rs rs' n n' p p' Memory t e add = tt
fault_taken text rest line after m m' rs rs' n n' p p' (At k y) t e add =
    let a = add t.lines.written t.known in
    let number : length t.lines.done + 1 ≡ k = omega (arith, a.0, length_each t.lines.done t.lines.written t.lines.each) in
    subst (λ (n : ℕ). HasLineFault text n y) number (at_fault text rest line after y t.lines e a.1)

pub all_taken : (text rest : List ℕ) (m : BTreeMap (Bor (List ℕ)) ℕ) (rs : List Row) (n p : ℕ) → Taken text rest m rs n p → rest ≡ [] → IsCollected text m rs
all_taken text rest m rs n p t e = record {
  lines = t.lines.written;
  written = at_end text rest t.lines e;
  labels = t.known.labels;
  rows = t.known.rows;
}
