-- The lines of a text that were read so far.
use Rattle.std.proofs.Common.{◌≡◌, ◌+◌, ◌++◌, ℕ, List, [], ◌∷◌, length, refl, sym, ap, ◌∙◌, subst, append_assoc, append-nil}
use Rattle.bpf_text.specs.Lines.{TextLine, Writes, InRange}
use Rattle.text_lines.specs.Lines.{line_texts}
use Rattle.bpf_assembler.specs.Text.{EachWritten, AreDistinct, IsWritten}
use Rattle.bpf_assembler.specs.Faults.{HasFault, HasLineFault}
use Rattle.bpf_assembler.specs.declared.fault.Why.{Why}
use Rattle.bpf_assembler.proofs.Places.{written_after}

-- the lines up to the rest of the text are written so
pub record Progress (text rest : List ℕ) : Type 0 where
  pub done : List (List ℕ)
  pub written : List TextLine
  pub whole : line_texts text ≡ done ++ line_texts rest
  pub each : EachWritten done written
  pub distinct : AreDistinct [] written

abbrev pub at_start : (text : List ℕ) → Progress text text
at_start text = record { done = []; written = []; whole = refl; each = tt; distinct = tt }

-- one more line
abbrev pub one_more : (text rest line after : List ℕ) (w : TextLine) (t : Progress text rest) → line_texts rest ≡ line ∷ line_texts after
    → Writes line w → InRange w.body → AreDistinct [] (t.written ++ w ∷ []) → Progress text after
one_more text rest line after w t e writes fits distinct = record {
  done = t.done ++ line ∷ [];
  written = t.written ++ w ∷ [];
  whole = t.whole ∙ ap (λ (ls : List (List ℕ)). t.done ++ ls) e ∙ sym (append_assoc t.done (line ∷ []) (line_texts after));
  each = written_after t.done t.written line w t.each writes fits;
  distinct = distinct;
}

-- the next line has a fault
pub at_fault : (text rest line after : List ℕ) (y : Why) (t : Progress text rest) → line_texts rest ≡ line ∷ line_texts after → HasFault t.written line y → HasLineFault text (length t.done + 1) y
at_fault text rest line after y t e fault = record {
  before = t.done;
  line = line;
  after = line_texts after;
  lines = t.written;
  order = t.whole ∙ ap (λ (ls : List (List ℕ)). t.done ++ ls) e;
  counted = refl;
  each = t.each;
  distinct = t.distinct;
  fault = fault;
}

-- no line is left
pub at_end : (text rest : List ℕ) (t : Progress text rest) → rest ≡ [] → IsWritten text t.written
at_end text rest t e = record {
  each = subst (λ (ls : List (List ℕ)). EachWritten ls t.written) (sym (t.whole ∙ ap (λ (r : List ℕ). t.done ++ line_texts r) e ∙ append-nil t.done)) t.each;
  distinct = t.distinct;
}
