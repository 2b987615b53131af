-- The tables of words are read as they are written.
use Rattle.std.proofs.Common.{◌≡◌, List, [], ◌∷◌, ◌++◌, ℕ, Bool, true, false, refl, sym, subst, ◌∙◌, Option, Some, take, drop, length}
use Rattle.std.specs.Prelude.{IfSome, cond, ◌-◌}
use Rattle.std.specs.List.{list_all}
use Rattle.std.specs.Map.{lookup}
use Rattle.std.specs.Str.{bytes_eq}
use Rattle.std.proofs.lemmas.Slice.Eq.{bytes_eq-Decides}
use Rattle.bpf_types.specs.declared.line.Operation.TheVariants as op
use Rattle.bpf_types.specs.declared.line.Comparison.TheVariants as comparison
use Rattle.bpf_types.specs.declared.line.Width.{Width}
use Rattle.bpf_types.specs.declared.line.Width.TheVariants.{W32, W64}
use Rattle.bpf_types.specs.declared.line.Order.TheVariants as order
use Rattle.bpf_types.specs.declared.line.Size.TheVariants as size
use Rattle.bpf_types.specs.declared.line.SignedSize.TheVariants as signed_size
use Rattle.bpf_canonical.specs.declared.mnemonic.Mnemonic.{Mnemonic}
use Rattle.bpf_canonical.specs.declared.mnemonic.Mnemonic.TheVariants as word
use Rattle.bpf_canonical.specs.declared.mnemonic.Stem.{Stem}
use Rattle.bpf_canonical.specs.declared.mnemonic.Stem.TheVariants as stem
use Rattle.bpf_canonical.specs.declared.mnemonic.TheConstants.{WIDTHS, STEMS, PLAIN}
use Rattle.bpf_canonical.specs.Mnemonics.{mnemonic_name, stem_name, width_name}
use Rattle.bpf_canonical.specs.Mirror.Words.{IsPlain}
use Rattle.bpf_canonical.proofs.Unique.{both}

-- the meaning of the first row of a word
abbrev pub width_meaning : List ℕ → Option Width
width_meaning w = lookup (λ known. bytes_eq known.now w) WIDTHS

abbrev pub stem_meaning : List ℕ → Option Stem
stem_meaning w = lookup (λ known. bytes_eq known.now w) STEMS

abbrev pub plain_meaning : List ℕ → Option Mnemonic
plain_meaning w = lookup (λ known. bytes_eq known.now w) PLAIN

at_row : {M : Type 0} (P : M → Type 0) (m : M) (others : Option M) (b : Bool) → (b ≡ true → P m) → IfSome others P → IfSome (cond b (Some m) others) P
at_row P m others true first other = first refl
at_row P m others false first other = other

-- if each row has the name of its meaning, so has what is read
read_by_name : {K M : Type 0} (text : K → List ℕ) (name : M → List ℕ) (w : List ℕ) (rows : List (K × M))
    → list_all (λ row. bytes_eq (text row.0) (name row.1)) rows ≡ true → IfSome (lookup (λ known. bytes_eq (text known) w) rows) (λ m. w ≡ name m)
read_by_name text name w [] h = tt
read_by_name text name w (row ∷ rows) h =
    let named = both (bytes_eq (text row.0) (name row.1)) (list_all (λ r. bytes_eq (text r.0) (name r.1)) rows) h in
    at_row (λ m. w ≡ name m) row.1 (lookup (λ known. bytes_eq (text known) w) rows) (bytes_eq (text row.0) w)
    (λ same. sym ((bytes_eq-Decides (text row.0) w).0 same) ∙ (bytes_eq-Decides (text row.0) (name row.1)).0 named.0)
    (read_by_name text name w rows named.1)

pub width_is_read : (w : List ℕ) → IfSome (width_meaning w) (λ m. w ≡ width_name m)
width_is_read w = read_by_name (λ known. known.now) width_name w WIDTHS refl

pub stem_is_read : (w : List ℕ) → IfSome (stem_meaning w) (λ m. w ≡ stem_name m)
stem_is_read w = read_by_name (λ known. known.now) stem_name w STEMS refl

pub plain_is_read : (w : List ℕ) → IfSome (plain_meaning w) (λ m. w ≡ mnemonic_name m)
plain_is_read w = read_by_name (λ known. known.now) mnemonic_name w PLAIN refl

pub width_read : (w : Width) → width_meaning (width_name w) ≡ Some w
width_read W32 = refl
width_read W64 = refl

pub stem_read : (s : Stem) → stem_meaning (stem_name s) ≡ Some s
stem_read (stem.Arithmetic op.Add) = refl
stem_read (stem.Arithmetic _) = refl
stem_read (stem.JumpIf comparison.Equal) = refl
stem_read (stem.JumpIf _) = refl
stem_read stem.Negate = refl
stem_read stem.MoveExtended = refl

pub plain_read : (m : Mnemonic) → IsPlain m → plain_meaning (mnemonic_name m) ≡ Some m
plain_read (word.Classed s w) h = absurd h
plain_read (word.ByteOrder order.Little) h = refl
plain_read (word.Load size.Word) h = refl
plain_read (word.LoadExtended signed_size.Word) h = refl
plain_read (word.Store size.Word) h = refl
plain_read (word.StoreImmediate size.Word) h = refl
plain_read _ h = refl

-- the last two octets of a word are its class, and those before them its stem
abbrev pub IsApart : List ℕ → Stem → Width → Type 0
IsApart w s v = (take (length w - 2) w ≡ stem_name s) × (drop (length w - 2) w ≡ width_name v)

name_apart : (w : Width) (s : Stem) → IsApart (stem_name s ++ width_name w) s w
name_apart W32 (stem.Arithmetic op.Add) = (refl, refl)
name_apart W32 (stem.JumpIf comparison.Equal) = (refl, refl)
name_apart W32 _ = (refl, refl)
name_apart W64 (stem.Arithmetic op.Add) = (refl, refl)
name_apart W64 (stem.JumpIf comparison.Equal) = (refl, refl)
name_apart W64 _ = (refl, refl)

pub parts_of : (w : List ℕ) (s : Stem) (v : Width) → w ≡ stem_name s ++ width_name v → IsApart w s v
parts_of w s v is = subst (λ (t : List ℕ). IsApart t s v) (sym is) (name_apart v s)
