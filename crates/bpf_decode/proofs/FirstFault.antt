-- Octets have one first fault at most, and then no instruction that may be loaded.
use Rattle.std.proofs.Common.{◌≡◌, ℕ, List, Result, Ok, Err, ap, refl}
use Rattle.bpf_types.specs.declared.line.Line.{Line}
use Rattle.bpf_decode.specs.declared.fault.DecodeFault.{DecodeFault}
use Rattle.bpf_decode.specs.declared.fault.DecodeFault.TheVariants as fault
use Rattle.bpf_decode.specs.Faults.{IsFirst, Decodes}
use Rattle.bpf_decode.proofs.Only.{unique, no_fault}

pub one_first : (octets : List ℕ) (a b : DecodeFault) → IsFirst a octets → IsFirst b octets → a ≡ b
one_first octets fault.CutWide fault.CutWide p q = refl
one_first octets fault.CutWide fault.UnknownOpcode p q = absurd (q.0 p)
one_first octets fault.CutWide fault.BadRegister p q = absurd (q.0 p)
one_first octets fault.CutWide fault.ReservedField p q = absurd (q.0 p)
one_first octets fault.CutWide fault.WritesFramePointer p q = absurd (q.0 p)
one_first octets fault.UnknownOpcode fault.CutWide p q = absurd (p.0 q)
one_first octets fault.UnknownOpcode fault.UnknownOpcode p q = refl
one_first octets fault.UnknownOpcode fault.BadRegister p q = absurd (q.1 p.1)
one_first octets fault.UnknownOpcode fault.ReservedField p q = absurd (q.1 p.1)
one_first octets fault.UnknownOpcode fault.WritesFramePointer p q = absurd (q.1 p.1)
one_first octets fault.BadRegister fault.CutWide p q = absurd (p.0 q)
one_first octets fault.BadRegister fault.UnknownOpcode p q = absurd (p.1 q.1)
one_first octets fault.BadRegister fault.BadRegister p q = refl
one_first octets fault.BadRegister fault.ReservedField p q = absurd (q.2 p.2)
one_first octets fault.BadRegister fault.WritesFramePointer p q = absurd (q.2 p.2)
one_first octets fault.ReservedField fault.CutWide p q = absurd (p.0 q)
one_first octets fault.ReservedField fault.UnknownOpcode p q = absurd (p.1 q.1)
one_first octets fault.ReservedField fault.BadRegister p q = absurd (p.2 q.2)
one_first octets fault.ReservedField fault.ReservedField p q = refl
one_first octets fault.ReservedField fault.WritesFramePointer p q = absurd (q.3 p.3)
one_first octets fault.WritesFramePointer fault.CutWide p q = absurd (p.0 q)
one_first octets fault.WritesFramePointer fault.UnknownOpcode p q = absurd (p.1 q.1)
one_first octets fault.WritesFramePointer fault.BadRegister p q = absurd (p.2 q.2)
one_first octets fault.WritesFramePointer fault.ReservedField p q = absurd (p.3 q.3)
one_first octets fault.WritesFramePointer fault.WritesFramePointer p q = refl

-- octets are decoded one way
pub one_way : (octets : List ℕ) (a b : Result Line DecodeFault) → Decodes octets a → Decodes octets b → a ≡ b
one_way octets (Ok x) (Ok y) p q = ap Ok (unique octets x y p.0 q.0)
one_way octets (Ok x) (Err f) p q = absurd (p.1 (no_fault octets f x q p.0))
one_way octets (Err f) (Ok x) p q = absurd (q.1 (no_fault octets f x p q.0))
one_way octets (Err e) (Err f) p q = ap Err (one_first octets e f p q)
