use Rattle.std.proofs.Common.{◌≡◌, drop}
use Rattle.ocp_table.specs.Restoring.{rises, rises_from}
use Rattle.ocp_table.proofs.saved.rise.Given as goal

-- those so far rise
abbrev pub invariant-loop-place : goal.invariant-loop-place
invariant-loop-place l = rises l.places ≡ rises_from l.before (drop l.place-index l.rest)
