use Rattle.std.proofs.Common.{◌≡◌, ◌<◌, ◌^◌, Some, take}
use Rattle.ocp_lines.specs.Words.{hexadecimal}
use Rattle.ocp_lines.proofs.words.hexadecimal.Given as goal

abbrev pub invariant-loop-octet : goal.invariant-loop-octet
invariant-loop-octet l = record {
  value : hexadecimal (take l.octet-index l.digits) ≡ Some l.value;
  bound : l.value < 16 ^ l.octet-index;
}
