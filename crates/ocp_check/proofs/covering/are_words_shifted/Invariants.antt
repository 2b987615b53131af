use Rattle.std.proofs.Common.{ℕ, ◌<◌, slice_index_or, None}
use Rattle.ocp_regions.specs.Memory.{Octets}
use Rattle.ocp_check.specs.Mirror.Forms.{bases_after}
use Rattle.ocp_check.specs.Mirror.Words.{IsWord, AreWords}
use Rattle.ocp_check.proofs.covering.are_words_shifted.Given as goal

abbrev pub invariant-loop-k : goal.invariant-loop-k
invariant-loop-k l = (j : ℕ) → j < l.k → (bases : ℕ → ℕ) (m : Octets) → AreWords l.from bases m → IsWord (slice_index_or l.words j None) (bases_after l.shifts bases) m
