use Rattle.std.proofs.Common.{◌≡◌}
use Rattle.ocp_regions.specs.Memory.{IsZeroBelow}
use Rattle.ocp_regions.proofs.extent.is_zero.Given as goal

abbrev pub invariant-loop-octet : goal.invariant-loop-octet
invariant-loop-octet l = l.largest ≡ 0 → IsZeroBelow l.octet-index l.octets
