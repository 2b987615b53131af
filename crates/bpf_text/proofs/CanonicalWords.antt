-- The words that instructions begin with are words of assembly text.
use Rattle.std.proofs.Common.{◌≡◌, ℕ, List, [], ◌∷◌, ◌++◌, Bool, true, false, refl, inl}
use Rattle.std.specs.Prelude.{codes, ◌&&◌}
use Rattle.bpf_types.specs.declared.line.Operation.TheVariants as op
use Rattle.bpf_types.specs.declared.line.Comparison.TheVariants as comparison
use Rattle.bpf_types.specs.declared.line.Order.TheVariants as order
use Rattle.bpf_types.specs.declared.line.Size.{Size}
use Rattle.bpf_types.specs.declared.line.Size.TheVariants as size
use Rattle.bpf_types.specs.declared.line.SignedSize.{SignedSize}
use Rattle.bpf_types.specs.declared.line.SignedSize.TheVariants as signed_size
use Rattle.bpf_types.specs.declared.line.Width.{Width}
use Rattle.bpf_types.specs.declared.line.Width.TheVariants.{W32, W64}
use Rattle.bpf_canonical.specs.declared.mnemonic.Mnemonic.{Mnemonic}
use Rattle.bpf_canonical.specs.declared.mnemonic.Mnemonic.TheVariants as word
use Rattle.bpf_canonical.specs.declared.mnemonic.Stem.{Stem}
use Rattle.bpf_canonical.specs.declared.mnemonic.Stem.TheVariants as stem
use Rattle.bpf_canonical.specs.Mnemonics.{size_name, signed_size_name, width_name, stem_name, mnemonic_name}
use Rattle.bpf_text.specs.Tokens.{is_word, AllWord}
use Rattle.bpf_text.proofs.CanonicalNumbers.{IsRun, word_join}

abbrev all_word : List ℕ → Bool
all_word [] = true
all_word (o ∷ os) = is_word o && all_word os

both_of : (a b : Bool) → (a && b) ≡ true → (a ≡ true) × (b ≡ true)
both_of true b h = (refl, h)
both_of false b h = absurd cc

word_by : (os : List ℕ) → all_word os ≡ true → AllWord os
word_by [] h = tt
word_by (o ∷ os) h = let p = both_of (is_word o) (all_word os) h in (p.0, word_by os p.1)

abbrev is_plain : List ℕ → Bool
is_plain [] = false
is_plain (o ∷ os) = all_word (o ∷ os)

plain_run : (w : List ℕ) → is_plain w ≡ true → IsRun w
plain_run [] h = absurd cc
plain_run (o ∷ os) h = inl (word_by (o ∷ os) h)

run_join : (a b : List ℕ) → is_plain a ≡ true → all_word b ≡ true → IsRun (a ++ b)
run_join [] b ha hb = absurd cc
run_join (o ∷ os) b ha hb = inl (word_join (o ∷ os) b (word_by (o ∷ os) ha) (word_by b hb))

width_word : (w : Width) → all_word (width_name w) ≡ true
width_word W32 = refl
width_word W64 = refl

size_word : (s : Size) → all_word (size_name s) ≡ true
size_word size.Word = refl
size_word _ = refl

signed_size_word : (s : SignedSize) → all_word (signed_size_name s) ≡ true
signed_size_word signed_size.Word = refl
signed_size_word _ = refl

stem_plain : (s : Stem) → is_plain (stem_name s) ≡ true
stem_plain (stem.Arithmetic op.Add) = refl
stem_plain (stem.JumpIf comparison.Equal) = refl
stem_plain _ = refl

-- each mnemonic is one word
pub mnemonic_run : (m : Mnemonic) → IsRun (mnemonic_name m)
mnemonic_run (word.Classed stem width) = run_join (stem_name stem) (width_name width) (stem_plain stem) (width_word width)
mnemonic_run (word.ByteOrder order.Little) = plain_run (codes "le") refl
mnemonic_run (word.ByteOrder order.Big) = plain_run (codes "be") refl
mnemonic_run (word.ByteOrder order.Swap) = plain_run (codes "swap") refl
mnemonic_run word.LoadWide = plain_run (codes "lddw") refl
mnemonic_run (word.Load size) = run_join (codes "ldx") (size_name size) refl (size_word size)
mnemonic_run (word.LoadExtended size) = run_join (codes "ldxs") (signed_size_name size) refl (signed_size_word size)
mnemonic_run (word.Store size) = run_join (codes "stx") (size_name size) refl (size_word size)
mnemonic_run (word.StoreImmediate size) = run_join (codes "st") (size_name size) refl (size_word size)
mnemonic_run word.Jump = plain_run (codes "ja") refl
mnemonic_run word.LongJump = plain_run (codes "ja32") refl
mnemonic_run word.Call = plain_run (codes "call") refl
mnemonic_run word.Exit = plain_run (codes "exit") refl

pub local_run : IsRun (codes "local")
local_run = plain_run (codes "local") refl
