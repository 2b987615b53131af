use Rattle.std.proofs.Common.{ℕ, ◌<◌, ◌≡◌, ◌≢◌, slice_index_or, Some, None}
use Rattle.ocp_check.specs.declared.form.Form.{Form}
use Rattle.ocp_check.proofs.form.is_free.Given as goal

abbrev pub invariant-loop-k : goal.invariant-loop-k
invariant-loop-k l = (j : ℕ) → j < l.k → (f : Form) → slice_index_or l.forms j None ≡ Some f → f.base ≢ l.base
