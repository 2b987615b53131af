-- The octets of an instruction that may be loaded, in two slots.
use Rattle.std.specs.Prelude.{ℕ, List, [], ◌∷◌, ◌++◌, Result, Ok, Err}
use Rattle.bpf_types.specs.declared.line.Line.{Line}
use Rattle.bpf_types.specs.declared.line.Line.TheVariants as line
use Rattle.bpf_types.specs.Line.{first_slot, second_slot, slot_octets}
use Rattle.bpf_decode.specs.declared.fault.DecodeFault.{DecodeFault}
use Rattle.bpf_decode.specs.Mirror.Decoding.{decode_result}

-- the octets of a slot, or as many zeros if there are none
abbrev pub or_zeros : List ℕ → List ℕ
or_zeros [] = 0 ∷ 0 ∷ 0 ∷ 0 ∷ 0 ∷ 0 ∷ 0 ∷ 0 ∷ []
or_zeros (octet ∷ octets) = octet ∷ octets

-- the two slots of an instruction, the second one zeros if it has one slot
abbrev pub two_slots : Line → List ℕ
two_slots line = slot_octets (first_slot line) ++ or_zeros (second_slot line)

-- an instruction that was decoded, or an exit
abbrev pub line_or_exit : Result Line DecodeFault → Line
line_or_exit (Ok line) = line
line_or_exit (Err fault) = line.Exit

-- the instruction that the octets are decoded as
abbrev pub line_of_slots : List ℕ → Line
line_of_slots octets = line_or_exit (decode_result octets)
