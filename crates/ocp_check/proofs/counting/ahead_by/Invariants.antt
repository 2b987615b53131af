use Rattle.std.proofs.Common.{◌≤◌, ◌+◌, ℕ, List}
use Rattle.ocp_check.specs.Mirror.Ranges.{AreIn}
use Rattle.ocp_check.specs.Mirror.Ranks.{total_share, AreMoved}
use Rattle.ocp_check.proofs.counting.ahead_by.Given as goal

abbrev pub invariant-loop-k : goal.invariant-loop-k
invariant-loop-k l =
    (old new : List ℕ) → AreIn l.before old → AreIn l.after new → AreMoved l.steps old new →
    l.rank.base + total_share l.counters l.rank.counts new l.k + l.less ≤ l.more + total_share l.counters l.was old l.k
