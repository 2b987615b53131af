-- Words are read as what they were written from.
use Rattle.std.proofs.Common.{◌≡◌, List, ℕ, refl, ap, ◌∙◌, ◌⊎◌, inl, inr}
use Rattle.std.specs.Prelude.{◌++◌}
use Rattle.bpf_types.specs.declared.line.Width.{Width}
use Rattle.bpf_canonical.specs.declared.mnemonic.Mnemonic.{Mnemonic}
use Rattle.bpf_canonical.specs.declared.mnemonic.Mnemonic.TheVariants as word
use Rattle.bpf_canonical.specs.declared.mnemonic.Stem.{Stem}
use Rattle.bpf_canonical.specs.Mnemonics.{mnemonic_name, stem_name, width_name}
use Rattle.bpf_canonical.specs.Mirror.Words.{IsPlain}

kind_of : (m : Mnemonic) → ((s : Stem) × (w : Width) × (m ≡ word.Classed s w)) ⊎ IsPlain m
kind_of (word.Classed s w) = inl (s, w, refl)
kind_of _ = inr tt

-- a word without a class is that of a mnemonic without one
pub plain_only : (text : List ℕ) (m : Mnemonic) → ((s : Stem) (w : Width) → text ≡ stem_name s ++ width_name w → ⊥) → text ≡ mnemonic_name m → IsPlain m
plain_only text m none e = elim (kind_of m) [
  | inl k ↦ absurd (none k.0 k.1 (e ∙ ap mnemonic_name k.2))
  | inr plain ↦ plain
]
