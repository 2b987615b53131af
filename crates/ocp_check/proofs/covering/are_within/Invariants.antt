use Rattle.std.proofs.Common.{ℕ, ◌<◌, slice_index_or, None}
use Rattle.ocp_check.specs.Mirror.Ranges.{IsIn}
use Rattle.ocp_check.proofs.covering.are_within.Given as goal

abbrev pub invariant-loop-k : goal.invariant-loop-k
invariant-loop-k l = (j : ℕ) → j < l.k → (v : ℕ) → IsIn (slice_index_or l.inner j None) v → IsIn (slice_index_or l.outer j None) v
