use Rattle.std.proofs.Common.{ℕ, slice_index_or, None}
use Rattle.ocp_regions.specs.Memory.{Octets}
use Rattle.ocp_check.specs.Mirror.Forms.{bases_after}
use Rattle.ocp_check.specs.Mirror.Words.{IsWord, AreWords}
use Rattle.ocp_check.proofs.Each.{before, below_next}
use Rattle.ocp_check.proofs.covering.are_words_shifted.Goals as goal

pub loop-k-preserved : goal.loop-k-preserved
loop-k-preserved c = below_next
    (λ (j : ℕ). (bases : ℕ → ℕ) (m : Octets) → AreWords c.args.from.now bases m → IsWord (slice_index_or c.args.words.now j None) (bases_after c.args.shifts.now bases) m)
    c.loop-k.k c.loop-k.invariant
    (λ bases m are. c.is_word_shifted.ensures c.if-not-is_word_shifted.false bases m (are.each c.loop-k.k c.loop-k-test.true))

pub returns : goal.returns
returns c = λ h bases m are. record { each = λ k below. c.loop-k.invariant k (before below c.loop-k-test.false) bases m are }
