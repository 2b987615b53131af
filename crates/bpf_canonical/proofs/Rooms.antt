-- The lengths of the parts of an instruction's text.
use Rattle.std.proofs.Common.{◌≡◌, ◌+◌, ◌<◌, ◌≤◌, ◌^◌, ℕ, ℤ, pos, negsuc, suc, length, ltb, ap, refl, arith, w16, w32, FitsSigned}
use Rattle.std.proofs.lemmas.Int.{ints}
use Rattle.std.proofs.lemmas.Bool.Decides.{Decides-ltb}
use Rattle.std.specs.Fmt.{decimal}
use Rattle.std.proofs.lemmas.Fmt.{length-decimal-le, decimal_digit}
use Rattle.bpf_types.specs.declared.line.Line.{Line}
use Rattle.bpf_types.specs.declared.line.Line.TheVariants as line
use Rattle.bpf_canonical.specs.declared.mnemonic.Mnemonic.{Mnemonic}
use Rattle.bpf_canonical.specs.declared.mnemonic.Mnemonic.TheVariants as word
use Rattle.bpf_canonical.specs.declared.mnemonic.Stem.TheVariants as stem
use Rattle.bpf_canonical.specs.Mnemonics.{mnemonic_name, mnemonic_of}
use Rattle.bpf_canonical.specs.Canonical.{with_sign}
use Rattle.bpf_canonical.specs.Mirror.Rooms.{operands_room}
use Rattle.bpf_canonical.proofs.Unique.{each_passes}

-- the digits of a number of 32 bits
pub few_digits : (n : ℕ) → n < 2 ^ 32 → length (decimal n) ≤ 10
few_digits n lt = length-decimal-le 10 n (omega arith) (omega arith) (omega arith)

-- a distance of 32 bits or of 16, with its sign
pub long_distance : (z : ℤ) → FitsSigned w32 z → length (with_sign z) ≤ 11
long_distance (pos n) h = omega (arith, few_digits n (omega (arith, ints)))
long_distance (negsuc n) h = omega (arith, few_digits (suc n) (omega (arith, ints)))

pub short_distance : (z : ℤ) → FitsSigned w16 z → length (with_sign z) ≤ 6
short_distance (pos n) h = omega (arith, length-decimal-le 5 n (omega arith) (omega arith) (omega (arith, ints)))
short_distance (negsuc n) h = omega (arith, length-decimal-le 5 (suc n) (omega arith) (omega arith) (omega (arith, ints)))

pub one_digit : (n : ℕ) → n < 10 → length (decimal n) ≡ 1
one_digit n lt = ap length (decimal_digit n lt)

pub room_least : (l : Line) → 24 ≤ operands_room l
room_least (line.MoveExtended e dst src) = omega arith
room_least _ = omega arith

-- the octets of a word at most
abbrev longest : Mnemonic → ℕ
longest (word.Classed stem.MoveExtended w) = 7
longest _ = 6

word_fits : (m : Mnemonic) → length (mnemonic_name m) ≤ longest m
word_fits m =
    let passes = each_passes (λ k. ltb (length (mnemonic_name k)) (longest k + 1)) refl m in
    omega (arith, (Decides-ltb (length (mnemonic_name m)) (longest m + 1)).0 passes)

room_after : (l : Line) → longest (mnemonic_of l) + operands_room l ≤ 31
room_after (line.MoveExtended e dst src) = omega arith
room_after _ = omega arith

-- the mnemonic of an instruction, and its operands
pub word_and_room : (l : Line) → length (mnemonic_name (mnemonic_of l)) + operands_room l ≤ 31
word_and_room l = omega (arith, word_fits (mnemonic_of l), room_after l)
