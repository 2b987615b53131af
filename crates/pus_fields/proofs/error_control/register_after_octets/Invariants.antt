use Rattle.std.proofs.Common.{List, Bool, drop}
use Rattle.pus_fields.specs.ErrorControl.{IsRemainder, bits, octet_bits}
use Rattle.pus_fields.specs.Mirror.Register.{dividend}
use Rattle.pus_fields.proofs.error_control.register_after_octets.Given as goal

abbrev pub invariant-loop-octet : goal.invariant-loop-octet
invariant-loop-octet l = (remainder : List Bool) → IsRemainder (dividend (bits 16 l.next) (octet_bits (drop l.octet-index l.octets))) remainder → IsRemainder (dividend (bits 16 l.fn.register) (octet_bits l.octets)) remainder
