use Rattle.std.proofs.Common.{ℕ, ◌<◌, ◌≡◌, ◌≢◌, slice_index_or, Some, None}
use Rattle.ocp_check.specs.declared.form.Form.{Form}
use Rattle.ocp_check.specs.declared.word.Word.{Word}
use Rattle.ocp_check.proofs.word.is_free_of_words.Given as goal

abbrev pub invariant-loop-k : goal.invariant-loop-k
invariant-loop-k l = (j : ℕ) → j < l.k → (w : Word) (f : Form) → slice_index_or l.words j None ≡ Some w → w.form ≡ Some f → f.base ≢ l.base
