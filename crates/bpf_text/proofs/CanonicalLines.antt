-- The canonical text of an instruction is written as that instruction.
use Rattle.std.proofs.Common.{◌≡◌, ◌<◌, ◌≤◌, ◌^◌, ℕ, ℤ, pos, negsuc, List, [], ◌∷◌, ◌++◌, Some, None, refl, inr, sym, ◌∙◌, ap, subst, arith, append_assoc, w16, w32, rules}
use Rattle.std.specs.Prelude.{codes, FitsSigned}
use Rattle.std.specs.Fmt.{decimal, signed_decimal}
use Rattle.std.proofs.lemmas.Int.{ints}
use Rattle.bpf_types.specs.declared.line.Line.{Line}
use Rattle.bpf_types.specs.declared.line.Line.TheVariants as line
use Rattle.bpf_types.specs.declared.line.Extension.{Extension}
use Rattle.bpf_types.specs.declared.line.Extension.TheVariants as extension
use Rattle.bpf_types.specs.declared.line.SwapWidth.{SwapWidth}
use Rattle.bpf_types.specs.declared.line.SwapWidth.TheVariants as swap
use Rattle.bpf_types.specs.Line.{IsLine, swap_width_bits, extension_bits}
use Rattle.bpf_canonical.specs.Canonical.{canonical, register, with_sign, operand_text, place_text, hex_digits}
use Rattle.bpf_canonical.specs.declared.mnemonic.Mnemonic.TheVariants as word
use Rattle.bpf_canonical.specs.Mnemonics.{mnemonic_name, mnemonic_of}
use Rattle.bpf_text.specs.Tokens.{NoWord, HasTokens}
use Rattle.bpf_text.specs.Number.{IsNumeral}
use Rattle.bpf_text.specs.Fields.{IsRegister, IsImmediate, IsSecond, IsDistance, IsTarget}
use Rattle.bpf_text.specs.Grammar.{Token, ◌⸴◌, Memory}
use Rattle.bpf_text.specs.Lines.{Are, IsForm, Writes}
use Rattle.bpf_text.proofs.ReadLemmas.{statement}
use Rattle.bpf_text.proofs.CanonicalNumbers.{IsRun, decimal_run, numeral_read, register_run, register_read, integer_run, immediate_read, operand_run, operand_read, distance_run, distance_read, value_run, value_read}
use Rattle.bpf_text.proofs.CanonicalWords.{mnemonic_run, local_run}
use Rattle.bpf_text.proofs.CanonicalTokens.{run_then, blank_then, run_last, word_and_one, word_and_two, word_and_three, word_and_load, word_and_store}

wide_enough : (z : ℤ) → FitsSigned w16 z → FitsSigned w32 z
wide_enough z h = search (rules, ints)

sign_stops : (z : ℤ) (rest : List ℕ) → NoWord (with_sign z ++ rest)
sign_stops (pos n) rest = refl
sign_stops (negsuc n) rest = refl

few_bits : (e : Extension) → extension_bits e < 2 ^ 64
few_bits extension.From8To32 = omega arith
few_bits _ = omega arith

few_kept : (s : SwapWidth) → swap_width_bits s < 2 ^ 64
few_kept swap.Bits16 = omega arith
few_kept _ = omega arith

-- the tokens of the canonical text, as the table of forms requires them
abbrev pub FormOf : Line → Type 0
FormOf l = (tokens : List (List ℕ)) × HasTokens (canonical l) tokens × IsForm (statement l None None) tokens

word_of : (l : Line) → IsRun (mnemonic_name (mnemonic_of l))
word_of l = mnemonic_run (mnemonic_of l)

-- 0x comes before the digits, and not after the comma
with_prefix : (front digits : List ℕ) → front ++ codes ", " ++ (codes "0x" ++ digits) ≡ front ++ codes ", 0x" ++ digits
with_prefix front digits = append_assoc front (codes ", ") (codes "0x" ++ digits) ∙ sym (append_assoc front (codes ", 0x") digits)

two_are : {V W : Type 0} (P : List ℕ → V → Type 0) (Q : List ℕ → W → Type 0) (a b : List ℕ) (v : V) (w : W) → P a v → Q b w → Are (Token P ⸴ Token Q) (v, w) (a ∷ (44 ∷ []) ∷ b ∷ [])
two_are P Q a b v w p q = ((44 ∷ []) ∷ b ∷ [], (a, refl, p), (b ∷ [], refl, (b, refl, q)))

three_are : {V W X : Type 0} (P : List ℕ → V → Type 0) (Q : List ℕ → W → Type 0) (R : List ℕ → X → Type 0) (a b c : List ℕ) (v : V) (w : W) (x : X) → P a v → Q b w → R c x → Are (Token P ⸴ Token Q ⸴ Token R) (v, (w, x)) (a ∷ (44 ∷ []) ∷ b ∷ (44 ∷ []) ∷ c ∷ [])
three_are P Q R a b c v w x p q r = ((44 ∷ []) ∷ b ∷ (44 ∷ []) ∷ c ∷ [], (a, refl, p), (b ∷ (44 ∷ []) ∷ c ∷ [], refl, two_are Q R b c w x q r))

memory_is : (b o : List ℕ) (base : ℕ) (offset : ℤ) (rest : List (List ℕ)) → IsRegister b base → IsDistance o offset → Memory ((91 ∷ []) ∷ b ∷ o ∷ (93 ∷ []) ∷ rest) (base, offset) rest
memory_is b o base offset rest p q = (b ∷ o ∷ (93 ∷ []) ∷ rest, refl, (o ∷ (93 ∷ []) ∷ rest, (b, refl, p), inr (o, refl, q)))

load_are : (a b o : List ℕ) (dst base : ℕ) (offset : ℤ) → IsRegister a dst → IsRegister b base → IsDistance o offset → Are (Token IsRegister ⸴ Memory) (dst, (base, offset)) (a ∷ (44 ∷ []) ∷ (91 ∷ []) ∷ b ∷ o ∷ (93 ∷ []) ∷ [])
load_are a b o dst base offset p q r = ((44 ∷ []) ∷ (91 ∷ []) ∷ b ∷ o ∷ (93 ∷ []) ∷ [], (a, refl, p), ((91 ∷ []) ∷ b ∷ o ∷ (93 ∷ []) ∷ [], refl, memory_is b o base offset [] q r))

store_are : {V : Type 0} (P : List ℕ → V → Type 0) (b o c : List ℕ) (base : ℕ) (offset : ℤ) (v : V) → IsRegister b base → IsDistance o offset → P c v → Are (Memory ⸴ Token P) ((base, offset), v) ((91 ∷ []) ∷ b ∷ o ∷ (93 ∷ []) ∷ (44 ∷ []) ∷ c ∷ [])
store_are P b o c base offset v p q r = ((44 ∷ []) ∷ c ∷ [], memory_is b o base offset ((44 ∷ []) ∷ c ∷ []) p q, (c ∷ [], refl, (c, refl, r)))

-- the tokens of a load after its word, and of a store
loaded : (m : List ℕ) → IsRun m → (dst base : ℕ) (offset : ℤ) → dst ≤ 10 → base ≤ 10 → FitsSigned w16 offset
    → (operands : List (List ℕ)) × HasTokens (m ++ (codes " " ++ register dst ++ codes ", " ++ place_text base offset)) (m ∷ operands) × Are (Token IsRegister ⸴ Memory) (dst, (base, offset)) operands
loaded m run dst base offset d b o =
    let far = wide_enough offset o in (
      _,
      word_and_load m (register dst) (register base) (with_sign offset) run (register_run dst d) (register_run base b) (distance_run offset far) (sign_stops offset),
      load_are (register dst) (register base) (with_sign offset) dst base offset (register_read dst d) (register_read base b) (distance_read offset far),
    )

stored : {V : Type 0} (P : List ℕ → V → Type 0) (m : List ℕ) → IsRun m → (base : ℕ) (offset : ℤ) (a : List ℕ) (v : V) → base ≤ 10 → FitsSigned w16 offset → IsRun a → P a v
    → (operands : List (List ℕ)) × HasTokens (m ++ (codes " " ++ place_text base offset ++ codes ", " ++ a)) (m ∷ operands) × Are (Memory ⸴ Token P) ((base, offset), v) operands
stored P m run base offset a v b o value is =
    let far = wide_enough offset o in (
      _,
      word_and_store m (register base) (with_sign offset) a run (register_run base b) (distance_run offset far) value (sign_stops offset),
      store_are P (register base) (with_sign offset) a base offset v (register_read base b) (distance_read offset far) is,
    )

pub canonical_form : (l : Line) → IsLine l → FormOf l
canonical_form (line.Arithmetic width operation dst operand) h =
    let a = register dst in let b = operand_text operand in let m = mnemonic_name (mnemonic_of (line.Arithmetic width operation dst operand)) in (
      m ∷ a ∷ codes "," ∷ b ∷ [],
      word_and_two m a b (word_of (line.Arithmetic width operation dst operand)) (register_run dst h.0) (operand_run operand h.1),
      (a ∷ codes "," ∷ b ∷ [], refl, (refl, refl, two_are IsRegister IsSecond a b dst operand (register_read dst h.0) (operand_read operand h.1))),
    )
canonical_form (line.Negate width dst) h =
    let a = register dst in let m = mnemonic_name (mnemonic_of (line.Negate width dst)) in (
      m ∷ a ∷ [],
      word_and_one m a (word_of (line.Negate width dst)) (register_run dst h),
      (a ∷ [], refl, (refl, refl, (a, refl, register_read dst h))),
    )
canonical_form (line.MoveExtended extension dst src) h =
    let a = register dst in let b = register src in let c = decimal (extension_bits extension) in let m = mnemonic_name (mnemonic_of (line.MoveExtended extension dst src)) in (
      m ∷ a ∷ codes "," ∷ b ∷ codes "," ∷ c ∷ [],
      word_and_three m a b c (word_of (line.MoveExtended extension dst src)) (register_run dst h.0) (register_run src h.1) (decimal_run (extension_bits extension) (few_bits extension)),
      (
        a ∷ codes "," ∷ b ∷ codes "," ∷ c ∷ [],
        refl,
        (refl, extension_bits extension, refl, three_are IsRegister IsRegister IsNumeral a b c dst src (extension_bits extension) (register_read dst h.0) (register_read src h.1) (numeral_read (extension_bits extension) (few_bits extension))),
      ),
    )
canonical_form (line.ByteOrder order width dst) h =
    let a = register dst in let b = decimal (swap_width_bits width) in let m = mnemonic_name (mnemonic_of (line.ByteOrder order width dst)) in (
      m ∷ a ∷ codes "," ∷ b ∷ [],
      word_and_two m a b (word_of (line.ByteOrder order width dst)) (register_run dst h) (decimal_run (swap_width_bits width) (few_kept width)),
      (
        a ∷ codes "," ∷ b ∷ [],
        refl,
        (refl, swap_width_bits width, refl, two_are IsRegister IsNumeral a b dst (swap_width_bits width) (register_read dst h) (numeral_read (swap_width_bits width) (few_kept width))),
      ),
    )
canonical_form (line.Jump distance) h =
    let a = with_sign distance in (
      codes "ja" ∷ a ∷ [],
      word_and_one (codes "ja") a (word_of (line.Jump distance)) (distance_run distance (wide_enough distance h)),
      (a ∷ [], refl, (refl, (a, refl, distance_read distance (wide_enough distance h)))),
    )
canonical_form (line.LongJump distance) h =
    let a = with_sign distance in (
      codes "ja32" ∷ a ∷ [],
      word_and_one (codes "ja32") a (word_of (line.LongJump distance)) (distance_run distance h),
      (a ∷ [], refl, (refl, (a, refl, distance_read distance h))),
    )
canonical_form (line.JumpIf width comparison dst operand distance) h =
    let a = register dst in let b = operand_text operand in let c = with_sign distance in let m = mnemonic_name (mnemonic_of (line.JumpIf width comparison dst operand distance)) in (
      m ∷ a ∷ codes "," ∷ b ∷ codes "," ∷ c ∷ [],
      word_and_three m a b c (word_of (line.JumpIf width comparison dst operand distance)) (register_run dst h.0) (operand_run operand h.1) (distance_run distance (wide_enough distance h.2)),
      (
        a ∷ codes "," ∷ b ∷ codes "," ∷ c ∷ [],
        refl,
        (refl, three_are IsRegister IsSecond IsTarget a b c dst operand (distance, None) (register_read dst h.0) (operand_read operand h.1) (distance_read distance (wide_enough distance h.2))),
      ),
    )
canonical_form (line.Call number) h =
    let a = signed_decimal number in (
      codes "call" ∷ a ∷ [],
      word_and_one (codes "call") a (word_of (line.Call number)) (integer_run number h),
      (a ∷ [], refl, (refl, refl, (a, refl, immediate_read number h))),
    )
canonical_form (line.CallLocal distance) h =
    let a = with_sign distance in (
      codes "call" ∷ codes "local" ∷ a ∷ [],
      run_then (codes "call") (codes " local " ++ a) (codes "local" ∷ a ∷ []) (word_of (line.CallLocal distance)) refl
          (blank_then (codes "local " ++ a) (codes "local" ∷ a ∷ [])
          (word_and_one (codes "local") a local_run (distance_run distance h))),
      (codes "local" ∷ a ∷ [], refl, (refl, (a ∷ [], refl, (a, refl, distance_read distance h)))),
    )
canonical_form line.Exit h =
    (codes "exit" ∷ [], run_last (codes "exit") (word_of line.Exit), ([], refl, (refl, refl, refl)))
canonical_form (line.LoadWide dst value) h =
    let a = register dst in let b = codes "0x" ++ hex_digits 16 value in (
      codes "lddw" ∷ a ∷ codes "," ∷ b ∷ [],
      subst (λ (t : List ℕ). HasTokens t (codes "lddw" ∷ a ∷ codes "," ∷ b ∷ [])) (ap (λ (t : List ℕ). codes "lddw" ++ t) (with_prefix (codes " " ++ a) (hex_digits 16 value)))
          (word_and_two (codes "lddw") a b (word_of (line.LoadWide dst value)) (register_run dst h.0) (value_run value)),
      (a ∷ codes "," ∷ b ∷ [], refl, (refl, refl, two_are IsRegister IsNumeral a b dst value (register_read dst h.0) (value_read value h.1))),
    )
canonical_form (line.Load size dst base offset) h =
    let f = loaded (mnemonic_name (word.Load size)) (mnemonic_run (word.Load size)) dst base offset h.0 h.1 h.2 in (_, f.1, (f.0, refl, (refl, refl, f.2)))
canonical_form (line.LoadExtended size dst base offset) h =
    let f = loaded (mnemonic_name (word.LoadExtended size)) (mnemonic_run (word.LoadExtended size)) dst base offset h.0 h.1 h.2 in (_, f.1, (f.0, refl, (refl, refl, f.2)))
canonical_form (line.StoreImmediate size base offset value) h =
    let f = stored IsImmediate (mnemonic_name (word.StoreImmediate size)) (mnemonic_run (word.StoreImmediate size)) base offset (signed_decimal value) value h.0 h.1 (integer_run value h.2) (immediate_read value h.2) in
    (_, f.1, (f.0, refl, (refl, refl, f.2)))
canonical_form (line.Store size base offset src) h =
    let f = stored IsRegister (mnemonic_name (word.Store size)) (mnemonic_run (word.Store size)) base offset (register src) src h.0 h.1 (register_run src h.2) (register_read src h.2) in
    (_, f.1, (f.0, refl, (refl, refl, f.2)))

-- a line with an instruction alone
pub canonical_written : (l : Line) → IsLine l → Writes (canonical l) (record { label = None; body = Some (record { line = l; name = None; unknown_width = None }) })
canonical_written l h = canonical_form l h
