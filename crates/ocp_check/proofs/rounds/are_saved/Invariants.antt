use Rattle.std.proofs.Common.{◌≡◌, ℕ, List}
use Rattle.ocp_check.specs.Mirror.Ranks.{SavedAreSame, total_share}
use Rattle.ocp_check.proofs.rounds.are_saved.Given as goal

abbrev pub invariant-loop-k : goal.invariant-loop-k
invariant-loop-k l = (old new : List ℕ) → SavedAreSame old new → total_share l.counters l.counts new l.k ≡ total_share l.counters l.counts old l.k
