use Rattle.std.proofs.Common.{ℕ, List, slice_index, slice_index_or, None}
use Rattle.ocp_check.specs.Mirror.Ranges.{AreIn}
use Rattle.ocp_check.specs.Mirror.Forms.{IsForm, AreFormed, bases_after}
use Rattle.ocp_check.proofs.Each.{before, below_next}
use Rattle.ocp_check.proofs.covering.are_shifted.Goals as goal

pub loop-k-preserved : goal.loop-k-preserved
loop-k-preserved c = below_next
    (λ (j : ℕ). (bases : ℕ → ℕ) (registers : List ℕ) → AreIn c.args.from.now.row registers → AreFormed c.args.from.now.forms bases registers → IsForm (slice_index_or c.args.node.now.forms j None) (bases_after c.args.shifts.now bases) (slice_index registers j))
    c.loop-k.k c.loop-k.invariant
    (λ bases registers known formed. c.is_shifted.ensures c.if-not-is_shifted.false bases (slice_index registers c.loop-k.k)
    (c.form_of_known.ensures bases (slice_index registers c.loop-k.k) (known.each c.loop-k.k c.loop-k-test.true) (formed.each c.loop-k.k c.loop-k-test.true)))

pub returns : goal.returns
returns c = λ h bases registers known formed. record { each = λ k below. c.loop-k.invariant k (before below c.loop-k-test.false) bases registers known formed }
