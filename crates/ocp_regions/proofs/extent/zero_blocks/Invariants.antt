use Rattle.std.proofs.Common.{◌≤◌, ◌*◌, length}
use Rattle.ocp_regions.specs.Memory.{IsZeroBelow}
use Rattle.ocp_regions.proofs.extent.zero_blocks.Given as goal

abbrev pub invariant-loop-block : goal.invariant-loop-block
invariant-loop-block l = (l.blocks * 512 ≤ length l.region) × IsZeroBelow (l.block * 512) l.region
