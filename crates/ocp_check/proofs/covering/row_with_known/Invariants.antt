use Rattle.std.proofs.Common.{◌≡◌, ℕ, List, length, slice_index}
use Rattle.ocp_check.specs.Mirror.Ranges.{IsIn, AreIn}
use Rattle.ocp_check.specs.Mirror.Forms.{AreFormed}
use Rattle.ocp_check.proofs.covering.row_with_known.Given as goal

abbrev pub invariant-loop-k : goal.invariant-loop-k
invariant-loop-k l = record {
  long : length l.changed ≡ 11;
  known : (bases : ℕ → ℕ) (registers : List ℕ) → AreIn l.row registers → AreFormed l.forms bases registers →
      IsIn l.known (slice_index registers l.register) → AreIn l.changed registers;
}
