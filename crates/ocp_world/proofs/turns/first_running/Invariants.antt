use Rattle.std.proofs.Common.{◌≡◌, take, None}
use Rattle.ocp_world.specs.Mirror.Turns.{first_from}
use Rattle.ocp_world.proofs.turns.first_running.Given as goal

-- none of the rows so far
abbrev pub invariant-loop-row : goal.invariant-loop-row
invariant-loop-row l = first_from l.from (take l.row-index l.rows) ≡ None
