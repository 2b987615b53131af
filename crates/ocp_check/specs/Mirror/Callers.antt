-- What is known of the local calls that are open.
use Rattle.std.specs.Prelude.{◌≡◌, ℕ, ◌+◌, List, [], ◌∷◌, ◌++◌, slice_index_or, slice_set, Option, None}
use Rattle.bpf_step.specs.declared.frame.Frame.{Frame}
use Rattle.ocp_check.specs.declared.range.Range.{Range}
use Rattle.ocp_check.specs.declared.form.Form.{Form}
use Rattle.ocp_check.specs.declared.certificate.Node.{Node}
use Rattle.ocp_check.specs.Mirror.Ranges.{IsIn}
use Rattle.ocp_check.specs.declared.word.Word.{Word}
use Rattle.ocp_regions.specs.Memory.{Octets}
use Rattle.ocp_check.specs.Mirror.Forms.{IsForm}
use Rattle.ocp_check.specs.Mirror.Words.{AreWords, IsSameFrom, greater, word_above}

-- a local call that is open: its slot, what was known there, the numbers of the
-- bases, and the memory
pub record Caller : Type 0 where
  pub place : ℕ
  pub node : Node
  pub bases : ℕ → ℕ
  pub memory : Octets

abbrev pub range_at : Node → ℕ → Option Range
range_at node register = slice_index_or node.row register None

abbrev pub form_at : Node → ℕ → Option Form
form_at node register = slice_index_or node.forms register None

-- what it saved is known
pub record Saves (c : Caller) (f : Frame) : Type 0 where
  pub place : f.place ≡ c.place + 1
  pub r6 : IsIn (range_at c.node 6) f.r6
  pub r7 : IsIn (range_at c.node 7) f.r7
  pub r8 : IsIn (range_at c.node 8) f.r8
  pub r9 : IsIn (range_at c.node 9) f.r9
  pub r10 : IsIn (range_at c.node 10) f.r10
  pub form6 : IsForm (form_at c.node 6) c.bases f.r6
  pub form7 : IsForm (form_at c.node 7) c.bases f.r7
  pub form8 : IsForm (form_at c.node 8) c.bases f.r8
  pub form9 : IsForm (form_at c.node 9) c.bases f.r9
  pub form10 : IsForm (form_at c.node 10) c.bases f.r10
  pub words : AreWords c.node.words c.bases c.memory

-- the frames are those of the callers, the latest of which is first
abbrev pub AreSaved : List Caller → List Frame → Type 0
AreSaved [] frames = frames ≡ []
AreSaved (c ∷ callers) frames =
    (earlier : List Frame) × (f : Frame) × (frames ≡ earlier ++ f ∷ []) × Saves c f
    × AreSaved callers earlier

-- from some address on the stack is as it was when each of them was opened
abbrev pub AreKept : ℕ → Octets → List Caller → Type 0
AreKept first m [] = Unit {0}
AreKept first m (c ∷ callers) =
    IsSameFrom first c.memory m × AreKept c.node.kept c.memory callers

-- what is known at the end of a local call: R0 alone
abbrev pub row_at_end : Option Range → List (Option Range)
row_at_end promise =
    promise ∷ None ∷ None ∷ None ∷ None ∷ None ∷ None ∷ None ∷ None ∷ None ∷ None ∷ []

-- what is known after it: R6 to R10 as they were at the call
abbrev pub row_after_return : Node → List (Option Range) → List (Option Range)
row_after_return node row =
    slice_set (slice_set (slice_set (slice_set (slice_set row
    6 (range_at node 6)) 7 (range_at node 7)) 8 (range_at node 8)) 9 (range_at node 9))
    10 (range_at node 10)

abbrev pub no_forms : List (Option Form)
no_forms =
    None ∷ None ∷ None ∷ None ∷ None ∷ None ∷ None ∷ None ∷ None ∷ None ∷ None ∷ []

abbrev pub forms_after_return : Node → List (Option Form)
forms_after_return node =
    slice_set (slice_set (slice_set (slice_set (slice_set no_forms
    6 (form_at node 6)) 7 (form_at node 7)) 8 (form_at node 8)) 9 (form_at node 9))
    10 (form_at node 10)

abbrev pub word_at : Node → ℕ → Option Word
word_at node k = slice_index_or node.words k None

abbrev pub words_after_return : Node → ℕ → List (Option Word)
words_after_return node floor =
    word_above floor (word_at node 0) ∷ word_above floor (word_at node 1)
    ∷ word_above floor (word_at node 2) ∷ word_above floor (word_at node 3)
    ∷ word_above floor (word_at node 4) ∷ word_above floor (word_at node 5)
    ∷ word_above floor (word_at node 6) ∷ word_above floor (word_at node 7) ∷ []

abbrev pub node_after_return : Node → Option Range → ℕ → Node
node_after_return node promise floor = record node {
  row = row_after_return node (row_at_end promise);
  forms = forms_after_return node;
  words = words_after_return node floor;
  kept = greater node.kept floor;
}
