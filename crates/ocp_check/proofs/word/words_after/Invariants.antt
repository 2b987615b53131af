use Rattle.std.proofs.Common.{ℕ, ◌≡◌, length, true, Ok}
use Rattle.ocp_regions.specs.Memory.{Octets, memory_after_store}
use Rattle.ocp_check.specs.Mirror.Ranges.{IsIn, IsThere}
use Rattle.ocp_check.specs.Mirror.Words.{AreWords}
use Rattle.ocp_check.proofs.word.words_after.Given as goal

abbrev pub invariant-loop-k : goal.invariant-loop-k
invariant-loop-k l = record {
  long : length l.after ≡ 8;
  known : (bases : ℕ → ℕ) (old new : Octets) (p v : ℕ) → AreWords l.words bases old → IsIn l.at p → IsThere true p l.octets → memory_after_store old p l.octets v ≡ Ok new → AreWords l.after bases new;
}
