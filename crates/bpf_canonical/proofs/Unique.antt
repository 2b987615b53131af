-- A word is the name of one mnemonic at most.
use Rattle.std.proofs.Common.{◌≡◌, ℕ, List, [], ◌∷◌, ◌++◌, Option, Some, None, Bool, true, false, refl, sym, ap, ◌∙◌, subst}
use Rattle.std.specs.Prelude.{if◌then◌else◌, map, ◌&&◌}
use Rattle.std.specs.List.{list_all}
use Rattle.std.specs.Str.{bytes_eq}
use Rattle.bpf_types.specs.declared.line.Operation.TheVariants as op
use Rattle.bpf_types.specs.declared.line.Comparison.TheVariants as comparison
use Rattle.bpf_types.specs.declared.line.Order.TheVariants as order
use Rattle.bpf_types.specs.declared.line.Size.TheVariants as size
use Rattle.bpf_types.specs.declared.line.SignedSize.TheVariants as signed_size
use Rattle.bpf_types.specs.declared.line.Width.{Width}
use Rattle.bpf_types.specs.declared.line.Width.TheVariants.{W32, W64}
use Rattle.bpf_types.specs.Line.{operations, comparisons, orders, sizes, signed_sizes}
use Rattle.bpf_canonical.specs.declared.mnemonic.Mnemonic.{Mnemonic}
use Rattle.bpf_canonical.specs.declared.mnemonic.Mnemonic.TheVariants as word
use Rattle.bpf_canonical.specs.declared.mnemonic.Stem.{Stem}
use Rattle.bpf_canonical.specs.declared.mnemonic.Stem.TheVariants as stem
use Rattle.bpf_canonical.specs.Mnemonics.{mnemonic_name}

-- each word that a class follows
abbrev stems : List Stem
stems = map stem.Arithmetic operations ++ map stem.JumpIf comparisons ++ stem.Negate ∷ stem.MoveExtended ∷ []

-- each mnemonic
abbrev mnemonics : List Mnemonic
mnemonics = map (λ s. word.Classed s W32) stems ++ map (λ s. word.Classed s W64) stems
    ++ map word.Load sizes ++ map word.Store sizes ++ map word.StoreImmediate sizes
    ++ map word.LoadExtended signed_sizes
    ++ map word.ByteOrder orders
    ++ word.LoadWide ∷ word.Jump ∷ word.LongJump ∷ word.Call ∷ word.Exit ∷ []

-- the first of them with this name
abbrev named : List ℕ → List Mnemonic → Option Mnemonic
named w [] = None
named w (m ∷ ms) = if bytes_eq (mnemonic_name m) w then Some m else named w ms

stem_back : (w : Width) (s : Stem) → named (mnemonic_name (word.Classed s w)) mnemonics ≡ Some (word.Classed s w)
stem_back W32 (stem.Arithmetic op.Add) = refl
stem_back W32 (stem.JumpIf comparison.Equal) = refl
stem_back W32 _ = refl
stem_back W64 (stem.Arithmetic op.Add) = refl
stem_back W64 (stem.JumpIf comparison.Equal) = refl
stem_back W64 _ = refl

named_back : (m : Mnemonic) → named (mnemonic_name m) mnemonics ≡ Some m
named_back (word.Classed s w) = stem_back w s
named_back (word.ByteOrder order.Little) = refl
named_back (word.Load size.Word) = refl
named_back (word.LoadExtended signed_size.Word) = refl
named_back (word.Store size.Word) = refl
named_back (word.StoreImmediate size.Word) = refl
named_back _ = refl

-- a word is the name of one mnemonic
pub one_mnemonic : (m n : Mnemonic) → mnemonic_name m ≡ mnemonic_name n → m ≡ n
one_mnemonic m n e = let f : Some m ≡ Some n = sym (named_back m) ∙ ap (λ (w : List ℕ). named w mnemonics) e ∙ named_back n in cc

pub both : (a b : Bool) → (a && b) ≡ true → (a ≡ true) × (b ≡ true)
both true b e = (refl, e)
both false b e = absurd cc

-- what each mnemonic of a list passes, the one that is found there passes
found_passes : (test : Mnemonic → Bool) (w : List ℕ) (m : Mnemonic) (ms : List Mnemonic) → list_all test ms ≡ true → named w ms ≡ Some m → test m ≡ true
found_passes test w m [] h e = absurd cc
found_passes test w m (k ∷ ms) h e = by (bytes_eq (mnemonic_name k) w) (found_passes test w m ms (both (test k) (list_all test ms) h).1) e
  where
    by : (b : Bool) → (named w ms ≡ Some m → test m ≡ true) → (if b then Some k else named w ms) ≡ Some m → test m ≡ true
    by true later is = let same : k ≡ m = cc in subst (λ (x : Mnemonic). test x ≡ true) same (both (test k) (list_all test ms) h).0
    by false later is = later is

-- what each of them passes, every mnemonic passes
pub each_passes : (test : Mnemonic → Bool) → list_all test mnemonics ≡ true → (m : Mnemonic) → test m ≡ true
each_passes test h m = found_passes test (mnemonic_name m) m mnemonics h (named_back m)
