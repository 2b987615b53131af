-- The first word of an instruction's text: the mnemonic, which ends in 32 or 64 if the
-- instruction has a class (a form of this product; the instructions are those of RFC 9669,
-- sections 4 and 5).
use Rattle.std.specs.Prelude.{List, ℕ, ◌++◌, codes}
use Rattle.bpf_types.specs.declared.line.Line.{Line}
use Rattle.bpf_types.specs.declared.line.Line.TheVariants as line
use Rattle.bpf_types.specs.declared.line.Operation.{Operation}
use Rattle.bpf_types.specs.declared.line.Operation.TheVariants as op
use Rattle.bpf_types.specs.declared.line.Comparison.{Comparison}
use Rattle.bpf_types.specs.declared.line.Comparison.TheVariants as comparison
use Rattle.bpf_types.specs.declared.line.Order.{Order}
use Rattle.bpf_types.specs.declared.line.Order.TheVariants as order
use Rattle.bpf_types.specs.declared.line.Size.{Size}
use Rattle.bpf_types.specs.declared.line.Size.TheVariants as size
use Rattle.bpf_types.specs.declared.line.SignedSize.{SignedSize}
use Rattle.bpf_types.specs.declared.line.SignedSize.TheVariants as signed_size
use Rattle.bpf_types.specs.declared.line.Width.{Width}
use Rattle.bpf_types.specs.declared.line.Width.TheVariants.{W32, W64}
use Rattle.bpf_types.specs.Line.{extension_width}
use Rattle.bpf_canonical.specs.declared.mnemonic.Mnemonic.{Mnemonic}
use Rattle.bpf_canonical.specs.declared.mnemonic.Mnemonic.TheVariants as word
use Rattle.bpf_canonical.specs.declared.mnemonic.Stem.{Stem}
use Rattle.bpf_canonical.specs.declared.mnemonic.Stem.TheVariants as stem

-- the arithmetic operations (RFC 9669, section 4.1)
abbrev pub operation_name : Operation → List ℕ
operation_name op.Add = codes "add"
operation_name op.Sub = codes "sub"
operation_name op.Mul = codes "mul"
operation_name op.Div = codes "div"
operation_name op.SignedDiv = codes "sdiv"
operation_name op.Or = codes "or"
operation_name op.And = codes "and"
operation_name op.Lsh = codes "lsh"
operation_name op.Rsh = codes "rsh"
operation_name op.Mod = codes "mod"
operation_name op.SignedMod = codes "smod"
operation_name op.Xor = codes "xor"
operation_name op.Mov = codes "mov"
operation_name op.Arsh = codes "arsh"

-- the conditional jumps (RFC 9669, section 4.3)
abbrev pub comparison_name : Comparison → List ℕ
comparison_name comparison.Equal = codes "jeq"
comparison_name comparison.Greater = codes "jgt"
comparison_name comparison.GreaterOrEqual = codes "jge"
comparison_name comparison.Set = codes "jset"
comparison_name comparison.NotEqual = codes "jne"
comparison_name comparison.SignedGreater = codes "jsgt"
comparison_name comparison.SignedGreaterOrEqual = codes "jsge"
comparison_name comparison.Less = codes "jlt"
comparison_name comparison.LessOrEqual = codes "jle"
comparison_name comparison.SignedLess = codes "jslt"
comparison_name comparison.SignedLessOrEqual = codes "jsle"

-- the byte order instructions (RFC 9669, section 4.2)
abbrev pub order_name : Order → List ℕ
order_name order.Little = codes "le"
order_name order.Big = codes "be"
order_name order.Swap = codes "swap"

-- the sizes of a load or a store (RFC 9669, section 5)
abbrev pub size_name : Size → List ℕ
size_name size.Word = codes "w"
size_name size.Half = codes "h"
size_name size.Byte = codes "b"
size_name size.Double = codes "dw"

-- the sizes of a load that extends the sign (RFC 9669, section 5.2)
abbrev pub signed_size_name : SignedSize → List ℕ
signed_size_name signed_size.Word = codes "w"
signed_size_name signed_size.Half = codes "h"
signed_size_name signed_size.Byte = codes "b"

-- the class, by the number of bits that it works on
abbrev pub width_name : Width → List ℕ
width_name W32 = codes "32"
width_name W64 = codes "64"

-- the word of a mnemonic without its class (RFC 9669, sections 4.1 to 4.3)
abbrev pub stem_name : Stem → List ℕ
stem_name (stem.Arithmetic operation) = operation_name operation
stem_name stem.Negate = codes "neg"
stem_name stem.MoveExtended = codes "movsx"
stem_name (stem.JumpIf comparison) = comparison_name comparison

-- the word of a mnemonic (RFC 9669, sections 4 and 5)
abbrev pub mnemonic_name : Mnemonic → List ℕ
mnemonic_name (word.Classed stem width) = stem_name stem ++ width_name width
mnemonic_name (word.ByteOrder order) = order_name order
mnemonic_name word.LoadWide = codes "lddw"
mnemonic_name (word.Load size) = codes "ldx" ++ size_name size
mnemonic_name (word.LoadExtended size) = codes "ldxs" ++ signed_size_name size
mnemonic_name (word.Store size) = codes "stx" ++ size_name size
mnemonic_name (word.StoreImmediate size) = codes "st" ++ size_name size
mnemonic_name word.Jump = codes "ja"
mnemonic_name word.LongJump = codes "ja32"
mnemonic_name word.Call = codes "call"
mnemonic_name word.Exit = codes "exit"

-- the mnemonic of an instruction
abbrev pub mnemonic_of : Line → Mnemonic
mnemonic_of (line.Arithmetic width operation dst operand) =
    word.Classed (stem.Arithmetic operation) width
mnemonic_of (line.Negate width dst) = word.Classed stem.Negate width
mnemonic_of (line.MoveExtended extension dst src) =
    word.Classed stem.MoveExtended (extension_width extension)
mnemonic_of (line.ByteOrder order width dst) = word.ByteOrder order
mnemonic_of (line.Jump distance) = word.Jump
mnemonic_of (line.LongJump distance) = word.LongJump
mnemonic_of (line.JumpIf width comparison dst operand distance) =
    word.Classed (stem.JumpIf comparison) width
mnemonic_of (line.Call number) = word.Call
mnemonic_of (line.CallLocal distance) = word.Call
mnemonic_of line.Exit = word.Exit
mnemonic_of (line.LoadWide dst value) = word.LoadWide
mnemonic_of (line.Load size dst base offset) = word.Load size
mnemonic_of (line.LoadExtended size dst base offset) = word.LoadExtended size
mnemonic_of (line.StoreImmediate size base offset value) = word.StoreImmediate size
mnemonic_of (line.Store size base offset src) = word.Store size
