use Rattle.std.proofs.Common.{◌<◌, ◌^◌, List, Bool, length}
use Rattle.pus_fields.specs.ErrorControl.{IsRemainder, bits, octet_bits, message}
use Rattle.pus_fields.specs.Mirror.Register.{dividend}
use Rattle.pus_fields.proofs.error_control.crc16.Given as goal

abbrev pub invariant-loop-eight : goal.invariant-loop-eight
invariant-loop-eight l = record {
  in_range : l.register < 2 ^ 16;
  divides : (remainder : List Bool) → IsRemainder (dividend (bits 16 l.register) (octet_bits l.rest)) remainder → IsRemainder (message l.fn.octets) remainder;
}

abbrev pub decreases-loop-eight : goal.decreases-loop-eight
decreases-loop-eight l = length l.rest
