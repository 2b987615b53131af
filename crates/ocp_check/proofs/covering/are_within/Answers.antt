use Rattle.std.proofs.Common.{ℕ, slice_index_or, None}
use Rattle.ocp_check.specs.Mirror.Ranges.{IsIn}
use Rattle.ocp_check.proofs.Each.{before, below_next}
use Rattle.ocp_check.proofs.covering.are_within.Goals as goal

pub loop-k-preserved : goal.loop-k-preserved
loop-k-preserved c = below_next
    (λ (j : ℕ). (v : ℕ) → IsIn (slice_index_or c.args.inner.now j None) v → IsIn (slice_index_or c.args.outer.now j None) v)
    c.loop-k.k c.loop-k.invariant (c.is_within.ensures c.if-not-is_within.false)

pub returns : goal.returns
returns c = λ h k below. c.loop-k.invariant k (before below c.loop-k-test.false)
