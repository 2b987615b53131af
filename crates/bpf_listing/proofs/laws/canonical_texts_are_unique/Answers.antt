use Rattle.std.proofs.Common.{◌≡◌, Option, Some, None, refl, sym, ap, subst}
use Rattle.bpf_types.specs.declared.line.Line.{Line}
use Rattle.bpf_types.specs.declared.line.Line.TheVariants as line
use Rattle.bpf_text.specs.Lines.{TextLine, Statement, Writes}
use Rattle.bpf_text.specs.Listings.{alone}
use Rattle.bpf_listing.proofs.laws.canonical_texts_are_unique.Goals as goal

-- the instruction of a statement
instruction : Option Statement → Line
instruction (Some s) = s.line
instruction None = line.Exit

same_line : (a b : Line) → alone a ≡ alone b → a ≡ b
unfolding instruction
same_line a b e = ap (λ (w : TextLine). instruction w.body) e

pub returns : goal.returns
returns c = λ a b ha hb e.
    let writes = c.canonical_texts_are_read_back.ensures.writes in
    same_line a b (c.readings_are_unique.ensures _ (alone a) (alone b) (writes a ha) (ha, refl) (subst (λ t. Writes t (alone b)) (sym e) (writes b hb)))
