-- What the parts of an opcode stand for: the one whose code in the instruction table they are.
use Rattle.std.specs.Prelude.{ℕ, ◌/◌, ◌%◌, ℤ, pos, Bool, ◌&&◌, ◌||◌, ◌==◌, if◌then◌else◌, Option}
use Rattle.std.specs.List.{find}
use Rattle.std.specs.Option.{is_some}
use Rattle.std.specs.Ordering.{int_eq}
use Rattle.bpf_types.specs.declared.line.Fields.{Fields}
use Rattle.bpf_types.specs.declared.line.Operation.{Operation}
use Rattle.bpf_types.specs.declared.line.Comparison.{Comparison}
use Rattle.bpf_types.specs.declared.line.Order.{Order}
use Rattle.bpf_types.specs.declared.line.Size.{Size}
use Rattle.bpf_types.specs.declared.line.SignedSize.{SignedSize}
use Rattle.bpf_types.specs.Line.{operations, operation_code, operation_offset, comparisons, comparison_code, orders, order_opcode, sizes, size_code, signed_sizes, signed_size_code}

-- the fields of a slot, in their order
abbrev pub slot_with : ℕ → ℕ → ℕ → ℤ → ℤ → Fields
slot_with opcode dst src offset imm =
    record { opcode = opcode; dst = dst; src = src; offset = offset; imm = imm }

-- the operation of a code, the high four bits of an arithmetic opcode, and an offset field
abbrev pub operation_at : ℕ → ℤ → Option Operation
operation_at n offset =
    find (λ o. (n == operation_code o) && int_eq offset (operation_offset o)) operations

-- the test of a code, the high four bits of a jump's opcode
abbrev pub comparison_at : ℕ → Option Comparison
comparison_at n = find (λ c. n == comparison_code c) comparisons

-- the byte order instruction of an opcode
abbrev pub order_at : ℕ → Option Order
order_at n = find (λ o. n == order_opcode o) orders

-- the size of a load or a store by its two bits
abbrev pub size_at : ℕ → Option Size
size_at n = find (λ s. n == size_code s) sizes

-- the size of a load that extends the sign by the same bits
abbrev pub signed_size_at : ℕ → Option SignedSize
signed_size_at n = find (λ s. n == signed_size_code s) signed_sizes

-- some row of the classes ALU and ALU64 has this opcode (RFC 9669, sections 4.1 and 4.2)
abbrev pub is_arithmetic : ℕ → Bool
is_arithmetic n =
    is_some (operation_at (n / 16) (pos 0)) || is_some (order_at n) || (n == 0x84) || (n == 0x87)

-- some row of the classes JMP and JMP32 has this opcode (RFC 9669, section 4.3)
abbrev pub is_jump : ℕ → Bool
is_jump n =
    is_some (comparison_at (n / 16)) || (n == 0x05) || (n == 0x06) || (n == 0x85) || (n == 0x95)

-- some row of the class LDX has this opcode (RFC 9669, sections 5.1 and 5.2)
abbrev pub is_load : ℕ → Bool
is_load n = (n / 32 == 3) || (n / 32 == 4) && is_some (signed_size_at (n / 8 % 4))

-- some row has this opcode, by the class, its low three bits (RFC 9669, section 3.3)
abbrev pub is_opcode : ℕ → Bool
is_opcode n = let class = n % 8 in if (class == 4) || (class == 7) then is_arithmetic n
    else if (class == 5) || (class == 6) then is_jump n
    else if class == 1 then is_load n
    else if (class == 2) || (class == 3) then n / 32 == 3
    else n == 0x18
