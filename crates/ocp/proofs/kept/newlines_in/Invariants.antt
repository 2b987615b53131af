use Rattle.std.proofs.Common.{◌≤◌}
use Rattle.ocp.proofs.kept.newlines_in.Given as goal

-- no more newlines than octets so far
abbrev pub invariant-loop-octet : goal.invariant-loop-octet
invariant-loop-octet l = l.count ≤ l.octet-index
