use Rattle.std.proofs.Common.{◌≡◌, ◌*◌, take}
use Rattle.std.specs.List.{flat_map}
use Rattle.ocp_saved.specs.Format.{due_octets}
use Rattle.ocp_saved.proofs.completions.put_dues.Given as goal

abbrev pub invariant-loop-index : goal.invariant-loop-index
invariant-loop-index l = take (16 * l.index) l.out ≡ flat_map due_octets (take l.index l.dues)
