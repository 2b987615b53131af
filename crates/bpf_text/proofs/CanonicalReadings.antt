-- The reader of a line at a canonical text.
use Rattle.std.proofs.Common.{◌≡◌, refl, subst, Result, Ok, Err}
use Rattle.std.specs.Prelude.{MatchResult}
use Rattle.bpf_types.specs.declared.line.Line.{Line}
use Rattle.bpf_types.specs.Line.{IsLine}
use Rattle.bpf_canonical.specs.Canonical.{canonical}
use Rattle.bpf_text.specs.Lines.{TextLine, InRange}
use Rattle.bpf_text.specs.Listings.{alone}
use Rattle.bpf_text.specs.Judged.{JudgesLine, written_line}
use Rattle.bpf_text.specs.declared.line.TextLine.{TextLine as LentLine}
use Rattle.bpf_text.specs.declared.line.LineFault.{LineFault}
use Rattle.bpf_text.specs.declared.line.LineFault.TheVariants.{Syntax, Range}
use Rattle.bpf_text.proofs.CanonicalLines.{canonical_written}
use Rattle.bpf_text.proofs.UniqueLines.{AreReadOnce}

-- the reader of a line answers the instruction of its canonical text
pub reads_canonical : AreReadOnce → (l : Line) → IsLine l → (r : Result LentLine LineFault) → JudgesLine (canonical l) r → MatchResult r (λ p. written_line p ≡ alone l) (λ fault. ⊥)
reads_canonical once l h (Ok p) k = once (canonical l) (written_line p) (alone l) k.0 k.1 (canonical_written l h)
reads_canonical once l h (Err Syntax) k = k (alone l) (canonical_written l h)
reads_canonical once l h (Err Range) (w, writes, out) =
    let same : alone l ≡ w = once (canonical l) (alone l) w (canonical_written l h) (h, refl) writes in
    out (subst (λ (v : TextLine). InRange v.body) same (h, refl))
