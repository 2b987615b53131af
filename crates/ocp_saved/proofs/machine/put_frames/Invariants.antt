use Rattle.std.proofs.Common.{◌≡◌, ◌*◌, take}
use Rattle.std.specs.List.{flat_map}
use Rattle.ocp_saved.specs.Format.{frame_octets}
use Rattle.ocp_saved.proofs.machine.put_frames.Given as goal

abbrev pub invariant-loop-index : goal.invariant-loop-index
invariant-loop-index l = take (42 * l.index) l.out ≡ flat_map frame_octets (take l.index l.frames)
