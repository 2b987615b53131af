use Rattle.std.proofs.Common.{◌≡◌, take}
use Rattle.ocp_reports.proofs.octets.Reports.is_same.Given as goal

-- the packets so far are the same
abbrev pub invariant-loop-index : goal.invariant-loop-index
invariant-loop-index g l = take l.index l.self ≡ take l.index l.other
