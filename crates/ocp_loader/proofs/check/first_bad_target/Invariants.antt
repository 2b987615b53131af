use Rattle.std.proofs.Common.{◌≡◌, None}
use Rattle.ocp_loader.specs.Mirror.Checks.{first_bad_target}
use Rattle.ocp_loader.proofs.check.first_bad_target.Given as goal

abbrev pub invariant-loop-slot : goal.invariant-loop-slot
invariant-loop-slot l = first_bad_target l.lines l.slot ≡ None
