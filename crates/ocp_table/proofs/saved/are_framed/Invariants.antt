use Rattle.std.proofs.Common.{◌≡◌, drop}
use Rattle.ocp_table.specs.Restoring.{are_framed}
use Rattle.ocp_table.proofs.saved.are_framed.Given as goal

-- R10 of each frame so far is that of its depth
abbrev pub invariant-loop-depth : goal.invariant-loop-depth
invariant-loop-depth l = are_framed 0 l.frames ≡ are_framed l.depth (drop l.depth l.frames)
