-- The octets of canonical texts, and the newlines of a listing.
use Rattle.std.proofs.Common.{◌≡◌, ◌+◌, ◌/◌, ◌%◌, ◌<◌, ◌≤◌, ◌^◌, ℕ, zero, suc, ℤ, pos, negsuc, List, [], ◌∷◌, ◌++◌, true, false, refl, sym, ap, ◌∙◌, arith, inl, inr, w32}
use Rattle.std.specs.Prelude.{codes, FitsSigned, ◌==◌, cond, length}
use Rattle.std.specs.List.{list_all, All, count_by}
use Rattle.std.specs.Fmt.{decimal, signed_decimal, digit_glyph}
use Rattle.std.proofs.lemmas.Fmt.{decimal_by_steps}
use Rattle.std.proofs.lemmas.List.Folds.{list_all-append}
use Rattle.std.proofs.lemmas.List.Sums.{sum_by-append}
use Rattle.std.proofs.lemmas.Bool.{lt-ltb, le-ltb, cases_lt, ne_eqb}
use Rattle.std.proofs.lemmas.Bool.Decides.{nat_tests}
use Rattle.bpf_types.specs.declared.line.Line.{Line}
use Rattle.bpf_types.specs.declared.line.Line.TheVariants as line
use Rattle.bpf_types.specs.declared.line.Operand.{Operand}
use Rattle.bpf_types.specs.declared.line.Operand.TheVariants.{Immediate, Register}
use Rattle.bpf_types.specs.declared.line.Extension.{Extension}
use Rattle.bpf_types.specs.declared.line.Extension.TheVariants as extension
use Rattle.bpf_types.specs.declared.line.SwapWidth.{SwapWidth}
use Rattle.bpf_types.specs.declared.line.SwapWidth.TheVariants as swap
use Rattle.bpf_types.specs.Line.{swap_width_bits, IsLine, IsOperand, extension_bits}
use Rattle.std.specs.Prelude.{unsigned_abs}
use Rattle.std.proofs.Common.{w16, rules}
use Rattle.std.proofs.lemmas.Int.{ints}
use Rattle.bpf_canonical.specs.declared.mnemonic.Mnemonic.{Mnemonic}
use Rattle.bpf_canonical.specs.Mnemonics.{mnemonic_name, mnemonic_of}
use Rattle.bpf_canonical.specs.Canonical.{canonical, operands_text, listing, register, with_sign, operand_text, hex_digits}
use Rattle.bpf_canonical.specs.Octets.{is_text_octet}
use Rattle.bpf_canonical.proofs.Unique.{both, each_passes}

fits_in : (z : ℤ) → FitsSigned w32 z → unsigned_abs z < 2 ^ 64
fits_in (pos n) h = omega (arith, ints)
fits_in (negsuc n) h = omega (arith, ints)

wide_enough : (z : ℤ) → FitsSigned w16 z → FitsSigned w32 z
wide_enough z h = search (rules, ints)

abbrev pub IsText : List ℕ → Type 0
IsText os = list_all is_text_octet os ≡ true

joined : (a b : List ℕ) → IsText a → IsText b → IsText (a ++ b)
joined a b ha hb = rw (list_all-append is_text_octet a b, ha, hb) refl

digit_text : (d : ℕ) → d < 10 → is_text_octet (48 + d) ≡ true
digit_text d lt = grind (arith, nat_tests)

glyph_text : (d : ℕ) → d < 16 → is_text_octet (digit_glyph false d) ≡ true
glyph_text d lt = elim (cases_lt d 10) [
  | inl small ↦ rw (lt-ltb d 10 small) (digit_text d small)
  | inr large ↦ rw (le-ltb d 10 large) (grind (arith, nat_tests))
]

decimal_text : (n : ℕ) → n < 2 ^ 64 → IsText (decimal n)
decimal_text = decimal_by_steps (λ n ds. IsText ds)
    (λ n lt. rw (digit_text n lt) refl)
    (λ n ds ge h. joined ds ((48 + n % 10) ∷ []) h (rw (digit_text (n % 10) (omega arith)) refl))

hex_text : (count n : ℕ) → IsText (hex_digits count n)
hex_text zero n = refl
hex_text (suc count) n = joined (hex_digits count (n / 16)) (digit_glyph false (n % 16) ∷ []) (hex_text count (n / 16)) (rw (glyph_text (n % 16) (omega arith)) refl)

register_text : (n : ℕ) → n ≤ 10 → IsText (register n)
register_text n le = joined (codes "r") (decimal n) refl (decimal_text n (omega arith))

sign_text : (z : ℤ) → FitsSigned w32 z → IsText (with_sign z)
sign_text (pos n) h = joined (codes "+") (decimal n) refl (decimal_text n (fits_in (pos n) h))
sign_text (negsuc n) h = joined (codes "-") (decimal (suc n)) refl (decimal_text (suc n) (fits_in (negsuc n) h))

number_text : (z : ℤ) → FitsSigned w32 z → IsText (signed_decimal z)
number_text (pos n) h = decimal_text n (fits_in (pos n) h)
number_text (negsuc n) h = joined (codes "-") (decimal (suc n)) refl (decimal_text (suc n) (fits_in (negsuc n) h))

operand_is_text : (o : Operand) → IsOperand o → IsText (operand_text o)
operand_is_text (Immediate z) h = number_text z h
operand_is_text (Register n) h = register_text n h

extension_text : (e : Extension) → IsText (decimal (extension_bits e))
extension_text extension.From8To32 = decimal_text 8 (omega arith)
extension_text extension.From16To32 = decimal_text 16 (omega arith)
extension_text extension.From8To64 = decimal_text 8 (omega arith)
extension_text extension.From16To64 = decimal_text 16 (omega arith)
extension_text extension.From32To64 = decimal_text 32 (omega arith)

swap_width_text : (s : SwapWidth) → IsText (decimal (swap_width_bits s))
swap_width_text swap.Bits16 = decimal_text 16 (omega arith)
swap_width_text swap.Bits32 = decimal_text 32 (omega arith)
swap_width_text swap.Bits64 = decimal_text 64 (omega arith)

mnemonic_text : (m : Mnemonic) → IsText (mnemonic_name m)
mnemonic_text = each_passes (λ m. list_all is_text_octet (mnemonic_name m)) refl

wide_text : (dst : ℕ) (hex : List ℕ) → dst ≤ 10 → IsText hex → IsText (codes " " ++ register dst ++ codes ", 0x" ++ hex)
wide_text dst hex le h = simp (list_all-append is_text_octet, register_text dst le, h) refl

operands_are_text : (l : Line) → IsLine l → IsText (operands_text l)
operands_are_text (line.Arithmetic w o dst x) h = simp (list_all-append is_text_octet, register_text dst h.0, operand_is_text x h.1) refl
operands_are_text (line.Negate w dst) h = simp (register_text dst h) refl
operands_are_text (line.MoveExtended e dst src) h = simp (list_all-append is_text_octet, register_text dst h.0, register_text src h.1, extension_text e) refl
operands_are_text (line.ByteOrder o s dst) h = simp (list_all-append is_text_octet, register_text dst h, swap_width_text s) refl
operands_are_text (line.LoadWide dst value) h = wide_text dst (hex_digits 16 value) h.0 (hex_text 16 value)
operands_are_text (line.JumpIf w t dst x z) h = simp (list_all-append is_text_octet, register_text dst h.0, operand_is_text x h.1, sign_text z (wide_enough z h.2)) refl
operands_are_text (line.Jump z) h = simp (sign_text z (wide_enough z h)) refl
operands_are_text (line.LongJump z) h = simp (sign_text z h) refl
operands_are_text (line.Call z) h = simp (number_text z h) refl
operands_are_text (line.CallLocal z) h = simp (sign_text z h) refl
operands_are_text line.Exit h = refl
operands_are_text (line.Load s dst base z) h = simp (list_all-append is_text_octet, register_text dst h.0, register_text base h.1, sign_text z (wide_enough z h.2)) refl
operands_are_text (line.LoadExtended s dst base z) h = simp (list_all-append is_text_octet, register_text dst h.0, register_text base h.1, sign_text z (wide_enough z h.2)) refl
operands_are_text (line.StoreImmediate s base z y) h = simp (list_all-append is_text_octet, register_text base h.0, sign_text z (wide_enough z h.1), number_text y h.2) refl
operands_are_text (line.Store s base z src) h = simp (list_all-append is_text_octet, register_text base h.0, sign_text z (wide_enough z h.1), register_text src h.2) refl

pub canonical_is_text : (l : Line) → IsLine l → IsText (canonical l)
canonical_is_text l h = joined (mnemonic_name (mnemonic_of l)) (operands_text l) (mnemonic_text (mnemonic_of l)) (operands_are_text l h)

-- an octet of a text is no newline
no_newline : (o : ℕ) → is_text_octet o ≡ true → (o == 10) ≡ false
no_newline o h = ne_eqb o 10 (λ e. let f : is_text_octet 10 ≡ true = ap is_text_octet (sym e) ∙ h in cc)

-- how many lines octets have
abbrev newlines : List ℕ → ℕ
newlines os = count_by (λ o. o == 10) os

newlines-append : (a b : List ℕ) → newlines (a ++ b) ≡ newlines a + newlines b
newlines-append a b = sum_by-append (λ o. cond (o == 10) 1 0) a b

none_in : (os : List ℕ) → IsText os → newlines os ≡ 0
none_in [] h = refl
none_in (o ∷ os) h =
    let passed = both (is_text_octet o) (list_all is_text_octet os) h in
    rw (no_newline o passed.0, none_in os passed.1) refl

-- a listing has one newline for each instruction
pub newlines_of_listing : (lines : List Line) → All IsLine lines → newlines (listing lines) ≡ length lines
newlines_of_listing [] h = refl
newlines_of_listing (l ∷ lines) h = omega (
  arith,
  newlines-append (canonical l ++ codes "\n") (listing lines),
  newlines-append (canonical l) (codes "\n"),
  none_in (canonical l) (canonical_is_text l (h 0 l (omega arith))),
  newlines_of_listing lines (λ k d lt. h (suc k) d (omega arith)),
)
