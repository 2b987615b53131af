-- The numbers of a canonical text are spelled as the assembler reads them.
use Rattle.std.proofs.Common.{◌≡◌, ◌≢◌, ◌+◌, ◌*◌, ◌/◌, ◌%◌, ◌^◌, ◌<◌, ◌≤◌, ℕ, zero, suc, ℤ, pos, negsuc, ◌-ℤ◌, List, [], ◌∷◌, ◌++◌, true, false, refl, sym, ap, ◌∙◌, subst, arith, inl, inr, ◌⊎◌, length, length-append, w32}
use native.Mathlib.Numerals.{unary_clauses}
use Rattle.std.specs.Prelude.{codes, FitsSigned, nat_le}
use Rattle.std.specs.Fmt.{decimal, signed_decimal, digit_glyph}
use Rattle.std.proofs.lemmas.Fmt.{decimal_by_steps}
use Rattle.std.proofs.lemmas.Bool.{cases_lt, lt-ltb, le-ltb}
use Rattle.std.proofs.lemmas.Bool.Decides.{nat_tests}
use Rattle.std.proofs.lemmas.Int.{ints}
use Rattle.bpf_types.specs.declared.line.Operand.{Operand}
use Rattle.bpf_types.specs.declared.line.Operand.TheVariants.{Immediate, Register}
use Rattle.bpf_types.specs.Line.{IsOperand}
use Rattle.bpf_canonical.specs.Canonical.{hex_digits, register, with_sign, operand_text}
use Rattle.std.specs.Char.{digit_value}
use Rattle.std.proofs.lemmas.Int.Digits.{digits_push, digits_value_push}
use Rattle.bpf_text.specs.Number.{IsInBase, IsNumeral}
use Rattle.bpf_text.specs.Tokens.{is_word, is_sign, AllWord}
use Rattle.bpf_text.specs.Fields.{IsRegister, IsInteger, IsImmediate, IsSecond, IsDistance, as_signed}

-- a run of a word, or a sign and a run
abbrev pub IsRun : List ℕ → Type 0
IsRun [] = ⊥
IsRun (octet ∷ octets) = ((is_word octet ≡ true) × AllWord octets) ⊎ ((is_sign octet ≡ true) × (octets ≢ []) × AllWord octets)

pub word_join : (a b : List ℕ) → AllWord a → AllWord b → AllWord (a ++ b)
word_join [] b ha hb = hb
word_join (o ∷ os) b ha hb = (ha.0, word_join os b ha.1 hb)

pub run_of_word : (w : List ℕ) → w ≢ [] → AllWord w → IsRun w
run_of_word [] some all = absurd (some refl)
run_of_word (o ∷ os) some all = inl all

pub spells_more : (base : ℕ) (ds : List ℕ) (n o : ℕ) → IsInBase base ds n → digit_value o < base → IsInBase base (ds ++ o ∷ []) (n * base + digit_value o)
spells_more base ds n o h lt = ((omega (arith, length-append ds (o ∷ [])), digits_push base ds o h.0.1 lt), rw h.1 (sym (digits_value_push base ds o)))

spells_one : (base d o : ℕ) → digit_value o ≡ d → d < base → IsInBase base (o ∷ []) d
spells_one base d o e lt = ((omega arith, (rw e lt, tt)), omega (arith, e))

digit_of : (d : ℕ) → d < 10 → digit_value (48 + d) ≡ d
digit_of d lt = grind (arith, nat_tests)

word_of : (d : ℕ) → d < 10 → is_word (48 + d) ≡ true
word_of d lt = grind (arith, nat_tests)

pub decimal_spells : (n : ℕ) → n < 2 ^ 64 → IsInBase 10 (decimal n) n
decimal_spells = decimal_by_steps (λ n ds. IsInBase 10 ds n)
    (λ n lt. spells_one 10 n (48 + n) (digit_of n lt) lt)
    (λ n ds ge h.
    let d : digit_value (48 + n % 10) ≡ n % 10 = digit_of (n % 10) (omega arith) in
    let e : n / 10 * 10 + digit_value (48 + n % 10) ≡ n = omega arith in
    subst (IsInBase 10 (ds ++ (48 + n % 10) ∷ [])) e (spells_more 10 ds (n / 10) (48 + n % 10) h (omega arith)))

pub decimal_word : (n : ℕ) → n < 2 ^ 64 → AllWord (decimal n)
decimal_word = decimal_by_steps (λ n ds. AllWord ds)
    (λ n lt. (word_of n lt, tt))
    (λ n ds ge h. word_join ds ((48 + n % 10) ∷ []) h (word_of (n % 10) (omega arith), tt))

-- a numeral has octets
some_octets : (w : List ℕ) (n : ℕ) → IsInBase 10 w n → w ≢ []
some_octets w n h = λ e. absurd (omega (arith, h.0.0, ap length e))

pub decimal_run : (n : ℕ) → n < 2 ^ 64 → IsRun (decimal n)
decimal_run n fits = run_of_word (decimal n) (some_octets (decimal n) n (decimal_spells n fits)) (decimal_word n fits)

glyph_digit : (d : ℕ) → d < 16 → digit_value (digit_glyph false d) ≡ d
glyph_digit d lt = elim (cases_lt d 10) [
  | inl small ↦ rw (lt-ltb d 10 small) (digit_of d small)
  | inr large ↦ rw (le-ltb d 10 large) (grind (arith, nat_tests))
]

glyph_word : (d : ℕ) → d < 16 → is_word (digit_glyph false d) ≡ true
glyph_word d lt = elim (cases_lt d 10) [
  | inl small ↦ rw (lt-ltb d 10 small) (word_of d small)
  | inr large ↦ rw (le-ltb d 10 large) (grind (arith, nat_tests))
]

pub hex_spells : (count n : ℕ) → n < 16 ^ suc count → IsInBase 16 (hex_digits (suc count) n) n
hex_spells zero n lt =
    let bound : n < 16 = lt in
    let e : n % 16 ≡ n = omega arith in
    spells_one 16 n (digit_glyph false (n % 16)) (glyph_digit (n % 16) (omega arith) ∙ e) bound
hex_spells (suc count) n lt =
    let bound = simp unary_clauses at lt in
    let d : digit_value (digit_glyph false (n % 16)) ≡ n % 16 = glyph_digit (n % 16) (omega arith) in
    let e : n / 16 * 16 + digit_value (digit_glyph false (n % 16)) ≡ n = omega arith in
    subst (IsInBase 16 (hex_digits (suc count) (n / 16) ++ digit_glyph false (n % 16) ∷ [])) e
    (spells_more 16 (hex_digits (suc count) (n / 16)) (n / 16) (digit_glyph false (n % 16)) (hex_spells count (n / 16) (omega arith)) (omega arith))

pub hex_word : (count n : ℕ) → AllWord (hex_digits count n)
hex_word zero n = tt
hex_word (suc count) n = word_join (hex_digits count (n / 16)) (digit_glyph false (n % 16) ∷ []) (hex_word count (n / 16)) (glyph_word (n % 16) (omega arith), tt)

-- the digits of a register's number
few_digits : (n : ℕ) → n < 2 ^ 64 → (n < 10 → decimal n ≡ (48 + n) ∷ []) × (n ≡ 10 → decimal n ≡ 49 ∷ 48 ∷ [])
few_digits = decimal_by_steps (λ n ds. (n < 10 → ds ≡ (48 + n) ∷ []) × (n ≡ 10 → ds ≡ 49 ∷ 48 ∷ []))
    (λ n lt. (λ l. refl, λ e. absurd (omega arith)))
    (λ n ds ge h. (
      λ l. absurd (omega arith),
      λ e.
          let one : n / 10 ≡ 1 = omega arith in
          let none : n % 10 ≡ 0 = omega arith in
          let front : ds ≡ 49 ∷ [] = h.0 (omega arith) ∙ ap (λ (k : ℕ). (48 + k) ∷ []) one in
          rw front (rw none refl),
    ))

pub register_read : (n : ℕ) → n ≤ 10 → IsRegister (register n) n
register_read n le = elim (cases_lt n 10) [
  | inl lt ↦ inl (lt, ap (λ (ds : List ℕ). codes "r" ++ ds) ((few_digits n (omega arith)).0 lt))
  | inr ge ↦ let e : n ≡ 10 = omega arith in inr (e, ap (λ (ds : List ℕ). codes "r" ++ ds) ((few_digits n (omega arith)).1 e))
]

pub register_run : (n : ℕ) → n ≤ 10 → IsRun (register n)
register_run n le = inl (refl, decimal_word n (omega arith))

pub numeral_read : (n : ℕ) → n < 2 ^ 64 → IsNumeral (decimal n) n
numeral_read n fits = inl (decimal_spells n fits)

pub integer_run : (z : ℤ) → FitsSigned w32 z → IsRun (signed_decimal z)
integer_run (pos n) h = decimal_run n (omega (arith, ints))
integer_run (negsuc n) h = inr (refl, some_octets (decimal (suc n)) (suc n) (decimal_spells (suc n) (omega (arith, ints))), decimal_word (suc n) (omega (arith, ints)))

minus_is : (n : ℕ) → negsuc n ≡ pos 0 -ℤ pos (suc n)
minus_is n = omega (arith, ints)

integer_read : (z : ℤ) → FitsSigned w32 z → IsInteger (signed_decimal z) z
integer_read (pos n) h = inl (n, numeral_read n (omega (arith, ints)), refl)
integer_read (negsuc n) h = inr (decimal (suc n), suc n, refl, numeral_read (suc n) (omega (arith, ints)), minus_is n)

below_limit : (n : ℕ) → n < 2147483648 → nat_le 2147483648 n ≡ false
below_limit n lt = grind (arith, nat_tests)

signed_stays : (z : ℤ) → FitsSigned w32 z → z ≡ as_signed z
signed_stays (pos n) h = let small : nat_le 2147483648 n ≡ false = below_limit n (omega (arith, ints)) in rw small refl
signed_stays (negsuc n) h = refl

pub immediate_read : (z : ℤ) → FitsSigned w32 z → IsImmediate (signed_decimal z) z
immediate_read z h = (z, integer_read z h, signed_stays z h)

pub operand_read : (o : Operand) → IsOperand o → IsSecond (operand_text o) o
operand_read (Immediate z) h = immediate_read z h
operand_read (Register n) h = register_read n h

pub operand_run : (o : Operand) → IsOperand o → IsRun (operand_text o)
operand_run (Immediate z) h = integer_run z h
operand_run (Register n) h = register_run n h

pub distance_run : (z : ℤ) → FitsSigned w32 z → IsRun (with_sign z)
distance_run (pos n) h = inr (refl, some_octets (decimal n) n (decimal_spells n (omega (arith, ints))), decimal_word n (omega (arith, ints)))
distance_run (negsuc n) h = inr (refl, some_octets (decimal (suc n)) (suc n) (decimal_spells (suc n) (omega (arith, ints))), decimal_word (suc n) (omega (arith, ints)))

pub distance_read : (z : ℤ) → FitsSigned w32 z → IsDistance (with_sign z) z
distance_read (pos n) h = (decimal n, n, numeral_read n (omega (arith, ints)), inl (refl, refl))
distance_read (negsuc n) h = (decimal (suc n), suc n, numeral_read (suc n) (omega (arith, ints)), inr (refl, minus_is n))

pub value_read : (n : ℕ) → n < 2 ^ 64 → IsNumeral (codes "0x" ++ hex_digits 16 n) n
value_read n fits = inr (hex_digits 16 n, refl, hex_spells 15 n fits)

pub value_run : (n : ℕ) → IsRun (codes "0x" ++ hex_digits 16 n)
value_run n = inl (refl, (refl, hex_word 16 n))
