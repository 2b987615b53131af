-- The rows of the instruction table: the one instruction that the fields of a slot spell. Each
-- field that its row does not name is zero.
use Rattle.std.specs.Prelude.{◌/◌, ◌%◌, Bool, ◌&&◌, ◌||◌, not, nat_lt, ◌==◌, if◌then◌else◌, Option, Some, None, ℤ, pos, negsuc}
use Rattle.std.specs.Bool.{then_some}
use Rattle.std.specs.Option.{option_and_then}
use Rattle.std.specs.Ordering.{int_eq}
use Rattle.bpf_types.specs.declared.line.Fields.{Fields}
use Rattle.bpf_types.specs.declared.line.Line.{Line}
use Rattle.bpf_types.specs.declared.line.Line.TheVariants as line
use Rattle.bpf_types.specs.declared.line.Operand.{Operand}
use Rattle.bpf_types.specs.declared.line.Operand.TheVariants.{Immediate, Register}
use Rattle.bpf_types.specs.declared.line.Extension.{Extension}
use Rattle.bpf_types.specs.declared.line.SwapWidth.{SwapWidth}
use Rattle.bpf_types.specs.declared.line.Size.{Size}
use Rattle.bpf_types.specs.declared.line.Width.{Width}
use Rattle.bpf_types.specs.declared.line.Width.TheVariants.{W32, W64}
use Rattle.bpf_types.specs.Mirror.{extension_of, swap_width_of}
use Rattle.bpf_decode.specs.Mirror.Codes.{operation_at, comparison_at, order_at, size_at, signed_size_at}

infixl 10 ◌>>=◌
-- what follows from the value, if there is one
abbrev pub ◌>>=◌ : {A B : Type 0} → Option A → (A → Option B) → Option B
value >>= f = option_and_then f value

-- the move that extends the sign, by its class and its offset field (RFC 9669, section 4.1)
abbrev pub extension_at : Width → ℤ → Option Extension
extension_at width (pos bits) = extension_of width bits
extension_at width (negsuc n) = None

-- the number of bits that the imm field of a byte order instruction gives (RFC 9669, section 4.2)
abbrev pub swap_width_at : ℤ → Option SwapWidth
swap_width_at (pos bits) = swap_width_of bits
swap_width_at (negsuc n) = None

-- the operand is the imm field, by bit 3 of the opcode (RFC 9669, section 4)
abbrev pub is_immediate : Fields → Bool
is_immediate f = nat_lt (f.opcode % 16) 8

-- what is zero in the rows that do not name it
abbrev pub no_dst : Fields → Bool
no_dst f = f.dst == 0

abbrev pub no_src : Fields → Bool
no_src f = f.src == 0

abbrev pub no_offset : Fields → Bool
no_offset f = int_eq f.offset (pos 0)

abbrev pub no_imm : Fields → Bool
no_imm f = int_eq f.imm (pos 0)

-- the operand of an instruction
abbrev pub operand_at : Fields → Option Operand
operand_at f = if is_immediate f then then_some (no_src f) (Immediate f.imm)
    else then_some (no_imm f) (Register f.src)

-- arithmetic with two operands (RFC 9669, section 4.1)
abbrev pub binary_at : Width → Fields → Option Line
binary_at width f =
    operation_at (f.opcode / 16) f.offset >>= λ operation. operand_at f
    >>= λ operand. Some (line.Arithmetic width operation f.dst operand)

-- a move that extends the sign (RFC 9669, section 4.1)
abbrev pub extended_move_at : Width → Fields → Option Line
extended_move_at width f =
    extension_at width f.offset >>= λ e. Some (line.MoveExtended e f.dst f.src)

-- a byte order instruction (RFC 9669, section 4.2)
abbrev pub byte_order_at : Fields → Option Line
byte_order_at f =
    order_at f.opcode >>= λ order. swap_width_at f.imm
    >>= λ width. Some (line.ByteOrder order width f.dst)

-- the classes ALU and ALU64 (RFC 9669, sections 4.1 and 4.2)
abbrev pub arithmetic_at : Width → Fields → Option Line
arithmetic_at width f = let code = f.opcode / 16 in
    if (code == 8) && (is_immediate f && no_src f && no_offset f && no_imm f)
    then Some (line.Negate width f.dst)
    else if (code == 11) && (not (is_immediate f) && not (no_offset f) && no_imm f)
    then extended_move_at width f
    else if (code == 13) && (no_src f && no_offset f) then byte_order_at f
    else binary_at width f

-- a jump that tests (RFC 9669, section 4.3)
abbrev pub jump_if_at : Width → Fields → Option Line
jump_if_at width f =
    comparison_at (f.opcode / 16) >>= λ test. operand_at f
    >>= λ operand. Some (line.JumpIf width test f.dst operand f.offset)

-- the classes JMP and JMP32 (RFC 9669, section 4.3)
abbrev pub jump_at : Width → Fields → Option Line
jump_at width f =
    if (f.opcode == 0x05) && (no_dst f && no_src f && no_imm f) then Some (line.Jump f.offset)
    else if (f.opcode == 0x06) && (no_dst f && no_src f && no_offset f)
    then Some (line.LongJump f.imm)
    else if (f.opcode == 0x85) && (no_dst f && no_src f && no_offset f) then Some (line.Call f.imm)
    else if (f.opcode == 0x85) && (no_dst f && (f.src == 1) && no_offset f)
    then Some (line.CallLocal f.imm)
    else if (f.opcode == 0x95) && (no_dst f && no_src f && no_offset f && no_imm f)
    then Some line.Exit
    else jump_if_at width f

-- the class LDX (RFC 9669, sections 5.1 and 5.2)
abbrev pub load_at : Fields → Option Line
load_at f = let size = f.opcode / 8 % 4 in if (f.opcode / 32 == 3) && no_imm f
    then (size_at size >>= λ size. Some (line.Load size f.dst f.src f.offset))
    else if (f.opcode / 32 == 4) && no_imm f
    then (signed_size_at size >>= λ size. Some (line.LoadExtended size f.dst f.src f.offset))
    else None

-- the store of this size, by the class (RFC 9669, section 5.1)
abbrev pub store_with : Fields → Size → Option Line
store_with f size = let class = f.opcode % 8 in
    if (class == 2) && no_src f then Some (line.StoreImmediate size f.dst f.offset f.imm)
    else if (class == 3) && no_imm f then Some (line.Store size f.dst f.offset f.src)
    else None

-- the classes ST and STX (RFC 9669, section 5.1)
abbrev pub store_at : Fields → Option Line
store_at f =
    if not (f.opcode / 32 == 3) then None else size_at (f.opcode / 8 % 4) >>= store_with f

-- the instruction of one slot that these fields spell, by the class, the low three bits of the
-- opcode (RFC 9669, section 3.3)
abbrev pub short_at : Fields → Option Line
short_at f = let class = f.opcode % 8 in
    if class == 1 then load_at f else if (class == 2) || (class == 3) then store_at f
    else if class == 4 then arithmetic_at W32 f else if class == 5 then jump_at W64 f
    else if class == 6 then jump_at W32 f
    else if class == 7 then arithmetic_at W64 f else None
