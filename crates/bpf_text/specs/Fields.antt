-- Registers, numbers and names in an instruction's text.
use Rattle.std.specs.Prelude.{◌≡◌, ◌<◌, ◌+◌, ℕ, ℤ, pos, ◌-ℤ◌, int_le, int_lt, ◌&&◌, List, [], ◌∷◌, ◌++◌, length, Option, Some, None, codes, if◌then◌else◌, true, ◌⊎◌}
use Rattle.bpf_types.specs.declared.line.Operand.{Operand}
use Rattle.bpf_types.specs.declared.line.Operand.TheVariants.{Immediate, Register}
use Rattle.bpf_text.specs.Number.{IsNumeral}
use Rattle.bpf_text.specs.Tokens.{is_word, AllWord}

-- r0 to r10
abbrev pub IsRegister : List ℕ → ℕ → Type 0
IsRegister token n =
    ((n < 10) × (token ≡ codes "r" ++ (48 + n) ∷ [])) ⊎ ((n ≡ 10) × (token ≡ codes "r10"))

-- a numeral, with or without - before it
abbrev pub IsInteger : List ℕ → ℤ → Type 0
IsInteger token z =
    ((n : ℕ) × IsNumeral token n × (z ≡ pos n))
    ⊎ ((digits : List ℕ) × (n : ℕ) × (token ≡ codes "-" ++ digits) × IsNumeral digits n
    × (z ≡ pos 0 -ℤ pos n))

-- an unsigned number of 32 bits stands for the signed one of the same bits
abbrev pub as_signed : ℤ → ℤ
as_signed z =
    if int_le (pos 2147483648) z && int_lt z (pos 4294967296) then z -ℤ pos 4294967296 else z

-- an immediate: a number of the signed or of the unsigned range
abbrev pub IsImmediate : List ℕ → ℤ → Type 0
IsImmediate token imm = (z : ℤ) × IsInteger token z × (imm ≡ as_signed z)

-- a second operand: a register or an immediate
abbrev pub IsSecond : List ℕ → Operand → Type 0
IsSecond token (Immediate imm) = IsImmediate token imm
IsSecond token (Register src) = IsRegister token src

-- a sign and a numeral
abbrev pub IsDistance : List ℕ → ℤ → Type 0
IsDistance token z = (digits : List ℕ) × (n : ℕ) × IsNumeral digits n
    × (((token ≡ codes "+" ++ digits) × (z ≡ pos n))
    ⊎ ((token ≡ codes "-" ++ digits) × (z ≡ pos 0 -ℤ pos n)))

-- a letter or _
abbrev pub BeginsName : ℕ → Type 0
BeginsName octet = (is_word octet ≡ true) × ((octet < 48) ⊎ (57 < octet))

-- a name: at most 32 octets of a word, the first of which is no digit
abbrev pub IsName : List ℕ → Type 0
IsName [] = ⊥
IsName (octet ∷ octets) = BeginsName octet × AllWord octets × (length octets < 32)

-- what is written for a distance: the distance itself, or a label's name, for which the line
-- has distance 0
abbrev pub IsTarget : List ℕ → ℤ × Option (List ℕ) → Type 0
IsTarget token (distance, None) = IsDistance token distance
IsTarget token (distance, Some name) = IsName token × (name ≡ token) × (distance ≡ pos 0)
