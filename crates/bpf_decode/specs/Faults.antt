-- The faults of octets that are no instruction that may be loaded, as facts about the octets.
use Rattle.std.specs.Prelude.{◌≡◌, ℕ, ◌<◌, List, Result, Ok, Err, length, slice_index}
use Rattle.std.specs.List.{All}
use Rattle.bpf_types.specs.declared.line.Line.{Line}
use Rattle.bpf_types.specs.Line.{WritesFramePointer}
use Rattle.bpf_decode.specs.declared.fault.DecodeFault.{DecodeFault}
use Rattle.bpf_decode.specs.declared.fault.DecodeFault.TheVariants as fault
use Rattle.bpf_decode.specs.Decoding.{BeginsWith, HasBadRegister, HasRow}

-- what each fault means, whatever else holds: a wide load with no second slot, an opcode of no row,
-- a register over 10, octets that spell no instruction, an instruction that writes R10
abbrev pub Has : DecodeFault → List ℕ → Type 0
Has fault.CutWide octets = (slice_index octets 0 ≡ 0x18) × (length octets < 16)
Has fault.UnknownOpcode octets = ¬ HasRow (slice_index octets 0)
Has fault.BadRegister octets = HasBadRegister octets
Has fault.ReservedField octets = (l : Line) → ¬ BeginsWith octets l
Has fault.WritesFramePointer octets = (l : Line) × BeginsWith octets l × WritesFramePointer l

-- the first fault that the octets have: they have this one, and none before it
abbrev pub IsFirst : DecodeFault → List ℕ → Type 0
IsFirst fault.CutWide octets = Has fault.CutWide octets
IsFirst fault.UnknownOpcode octets = ¬ Has fault.CutWide octets × Has fault.UnknownOpcode octets
IsFirst fault.BadRegister octets =
    ¬ Has fault.CutWide octets × ¬ Has fault.UnknownOpcode octets × Has fault.BadRegister octets
IsFirst fault.ReservedField octets =
    ¬ Has fault.CutWide octets × ¬ Has fault.UnknownOpcode octets × ¬ Has fault.BadRegister octets
    × Has fault.ReservedField octets
IsFirst fault.WritesFramePointer octets =
    ¬ Has fault.CutWide octets × ¬ Has fault.UnknownOpcode octets × ¬ Has fault.BadRegister octets
    × ¬ Has fault.ReservedField octets × Has fault.WritesFramePointer octets

-- 1 to 5 in the order in which faults are looked for
abbrev pub decode_number : DecodeFault → ℕ
decode_number fault.CutWide = 1
decode_number fault.UnknownOpcode = 2
decode_number fault.BadRegister = 3
decode_number fault.ReservedField = 4
decode_number fault.WritesFramePointer = 5

-- the numbers are octets
abbrev pub AreOctets : List ℕ → Type 0
AreOctets octets = All (λ octet. octet < 256) octets

-- what octets are decoded as: the instruction that they begin with, if it may be loaded, or
-- their first fault
abbrev pub Decodes : List ℕ → Result Line DecodeFault → Type 0
Decodes octets (Ok line) = BeginsWith octets line × ¬ WritesFramePointer line
Decodes octets (Err fault) = IsFirst fault octets
