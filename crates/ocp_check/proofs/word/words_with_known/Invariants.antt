use Rattle.std.proofs.Common.{ℕ, ◌≡◌, length}
use Rattle.ocp_regions.specs.Memory.{Octets}
use Rattle.ocp_check.specs.Mirror.Ranges.{IsIn}
use Rattle.ocp_check.specs.Mirror.Forms.{IsForm}
use Rattle.ocp_check.specs.Mirror.Words.{AreWords}
use Rattle.ocp_check.proofs.word.words_with_known.Given as goal

abbrev pub invariant-loop-k : goal.invariant-loop-k
invariant-loop-k l = record {
  long : length l.changed ≡ 8;
  known : (bases : ℕ → ℕ) (m : Octets) (v : ℕ) → AreWords l.words bases m → IsForm l.form bases v → IsIn l.known v → AreWords l.changed bases m;
}
