-- The number and the slot that a load fault is reported with.
use Rattle.std.specs.Prelude.{ℕ, ◌+◌}
use Rattle.bpf_decode.specs.Faults.{decode_number}
use Rattle.ocp_loader.specs.declared.fault.LoadFault.{LoadFault}
use Rattle.ocp_loader.specs.declared.fault.LoadFault.TheVariants.{EmptyCode, RaggedCode, TooLong, Decode, BadCall, BadTarget, FallsOffEnd, Memory}

-- 1 to 11 in the order in which faults are looked for, of which 4 to 8 are an instruction's; out of
-- memory is 0
abbrev pub number_of : LoadFault → ℕ
number_of EmptyCode = 1
number_of RaggedCode = 2
number_of TooLong = 3
number_of (Decode fault slot) = 3 + decode_number fault
number_of (BadCall slot) = 9
number_of (BadTarget slot) = 10
number_of (FallsOffEnd slot) = 11
number_of Memory = 0

-- the first slot of the instruction at fault, 0 if there is none
abbrev pub slot_of : LoadFault → ℕ
slot_of (Decode fault slot) = slot
slot_of (BadCall slot) = slot
slot_of (BadTarget slot) = slot
slot_of (FallsOffEnd slot) = slot
slot_of _ = 0
