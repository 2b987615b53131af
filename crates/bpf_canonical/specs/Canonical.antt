-- The canonical text of an instruction, without a newline: its mnemonic, a space, and its operands
-- separated by a comma and a space (a form of this product; the instructions are those of
-- RFC 9669, sections 4 and 5).
use Rattle.std.specs.Prelude.{ℕ, ◌/◌, ◌%◌, zero, suc, ℤ, pos, negsuc, List, [], ◌∷◌, ◌++◌, codes, false}
use Rattle.std.specs.Fmt.{decimal, signed_decimal, digit_glyph}
use Rattle.std.specs.List.{flat_map}
use Rattle.bpf_types.specs.declared.line.Line.{Line}
use Rattle.bpf_types.specs.declared.line.Line.TheVariants as line
use Rattle.bpf_types.specs.declared.line.Operand.{Operand}
use Rattle.bpf_types.specs.declared.line.Operand.TheVariants.{Immediate, Register}
use Rattle.bpf_types.specs.Line.{extension_bits, swap_width_bits}
use Rattle.bpf_canonical.specs.Mnemonics.{mnemonic_name, mnemonic_of}

-- a register
abbrev pub register : ℕ → List ℕ
register n = codes "r" ++ decimal n

-- a decimal number that always has its sign; zero is +0
abbrev pub with_sign : ℤ → List ℕ
with_sign (pos n) = codes "+" ++ decimal n
with_sign (negsuc n) = codes "-" ++ decimal (suc n)

-- the second operand: a decimal number with a sign if it is negative, or a register
abbrev pub operand_text : Operand → List ℕ
operand_text (Immediate imm) = signed_decimal imm
operand_text (Register src) = register src

-- an operand in memory: a register and an offset
abbrev pub place_text : ℕ → ℤ → List ℕ
place_text base offset = codes "[" ++ register base ++ with_sign offset ++ codes "]"

-- the last `count` hexadecimal digits of a number, in lower case
abbrev pub hex_digits : ℕ → ℕ → List ℕ
hex_digits zero n = []
hex_digits (suc count) n = hex_digits count (n / 16) ++ digit_glyph false (n % 16) ∷ []

-- the operands of an instruction, after a space; the exit has none
abbrev pub operands_text : Line → List ℕ
operands_text (line.Arithmetic width operation dst operand) =
    codes " " ++ register dst ++ codes ", " ++ operand_text operand
operands_text (line.Negate width dst) = codes " " ++ register dst
operands_text (line.MoveExtended extension dst src) =
    codes " " ++ register dst ++ codes ", " ++ register src ++ codes ", "
    ++ decimal (extension_bits extension)
operands_text (line.ByteOrder order width dst) =
    codes " " ++ register dst ++ codes ", " ++ decimal (swap_width_bits width)
operands_text (line.LoadWide dst value) =
    codes " " ++ register dst ++ codes ", 0x" ++ hex_digits 16 value
operands_text (line.Load size dst base offset) =
    codes " " ++ register dst ++ codes ", " ++ place_text base offset
operands_text (line.LoadExtended size dst base offset) =
    codes " " ++ register dst ++ codes ", " ++ place_text base offset
operands_text (line.Store size base offset src) =
    codes " " ++ place_text base offset ++ codes ", " ++ register src
operands_text (line.StoreImmediate size base offset value) =
    codes " " ++ place_text base offset ++ codes ", " ++ signed_decimal value
operands_text (line.JumpIf width comparison dst operand distance) =
    codes " " ++ register dst ++ codes ", " ++ operand_text operand ++ codes ", "
    ++ with_sign distance
operands_text (line.Jump distance) = codes " " ++ with_sign distance
operands_text (line.LongJump distance) = codes " " ++ with_sign distance
operands_text (line.Call number) = codes " " ++ signed_decimal number
operands_text (line.CallLocal distance) = codes " local " ++ with_sign distance
operands_text line.Exit = []

-- the text of an instruction
abbrev pub canonical : Line → List ℕ
canonical l = mnemonic_name (mnemonic_of l) ++ operands_text l

-- the canonical text of the instructions, each with its newline
abbrev pub listing : List Line → List ℕ
listing lines = flat_map (λ l. canonical l ++ codes "\n") lines
