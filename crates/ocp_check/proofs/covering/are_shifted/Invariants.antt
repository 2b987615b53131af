use Rattle.std.proofs.Common.{ℕ, ◌<◌, List, slice_index, slice_index_or, None}
use Rattle.ocp_check.specs.Mirror.Ranges.{AreIn}
use Rattle.ocp_check.specs.Mirror.Forms.{IsForm, AreFormed, bases_after}
use Rattle.ocp_check.proofs.covering.are_shifted.Given as goal

abbrev pub invariant-loop-k : goal.invariant-loop-k
invariant-loop-k l = (j : ℕ) → j < l.k → (bases : ℕ → ℕ) (registers : List ℕ) → AreIn l.from.row registers → AreFormed l.from.forms bases registers →
    IsForm (slice_index_or l.node.forms j None) (bases_after l.shifts bases) (slice_index registers j)
