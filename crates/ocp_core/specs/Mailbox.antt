-- The words that a procedure was sent, and those that it took, since it was last started.
use Rattle.std.specs.Prelude.{◌≡◌, ◌↔◌, ℕ, ◌==◌, if◌then◌else◌, List, [], ◌∷◌, ◌++◌, length, slice_get, Option, Some, None}
use Rattle.ocp_profile.specs.declared.profile.Profile.{Profile}
use Rattle.ocp_pool.specs.declared.call.Called.{Called as Call}
use Rattle.ocp_pool.specs.declared.call.Called.TheVariants.{NextParam}
use Rattle.ocp_table.specs.declared.answers.InstructionOutcome.{InstructionOutcome}
use Rattle.ocp_table.specs.declared.answers.InstructionOutcome.TheVariants.{Called}
use Rattle.ocp_table.specs.Effects.{Effect, Loaded, Unloaded, Changed, Change, Started, Sent, Stepped}
use Rattle.ocp_world.specs.World.{Event}
use Rattle.ocp_world.specs.Replay.{replay}
use Rattle.ocp_core.specs.History.{history, gather, Does}

-- a start empties both
abbrev pub sent_words_by : Change → List ℕ → List ℕ
sent_words_by (Started budget arguments) words = []
sent_words_by (Sent more) words = words ++ more
sent_words_by change words = words

abbrev pub taken_words_by_call : Call → List ℕ → List ℕ
taken_words_by_call (NextParam (Some word)) words = words ++ word ∷ []
taken_words_by_call call words = words

abbrev pub taken_words_by_outcome : InstructionOutcome → List ℕ → List ℕ
taken_words_by_outcome (Called call) words = taken_words_by_call call words
taken_words_by_outcome outcome words = words

abbrev pub taken_words_by : Change → List ℕ → List ℕ
taken_words_by (Started budget arguments) words = []
taken_words_by (Stepped outcome) words = taken_words_by_outcome outcome words
taken_words_by change words = words

-- so do a load and an unload: until the next start nothing is sent or taken
abbrev pub since_start : (Change → List ℕ → List ℕ) → ℕ → Effect → List ℕ → List ℕ
since_start by id (Loaded profile other image) words = if id == other then [] else words
since_start by id (Unloaded other) words = if id == other then [] else words
since_start by id (Changed other change) words = if id == other then by change words else words
since_start by id effect words = words

abbrev pub sent_words : Profile → ℕ → ℕ → List Event → ℕ → List ℕ
sent_words profile apid words es id =
    gather (since_start sent_words_by id) [] (history profile apid words es)

abbrev pub taken_words : Profile → ℕ → ℕ → List Event → ℕ → List ℕ
taken_words profile apid words es id =
    gather (since_start taken_words_by id) [] (history profile apid words es)

-- the law: a call of next_param gives the first word sent that was not taken yet
abbrev pub WordsComeInOrder : Type 0
WordsComeInOrder =
    (profile : Profile) (apid words : ℕ) (es : List Event) (by id : ℕ) (word : Option ℕ) →
    Does (replay profile apid words es) by id (Called (NextParam word)) →
    word ≡
    slice_get (sent_words profile apid words es id)
    (length (taken_words profile apid words es id))

-- the law: it gives none exactly if all words sent were taken
abbrev pub NoneIsLeft : Type 0
NoneIsLeft =
    (profile : Profile) (apid words : ℕ) (es : List Event) (by id : ℕ) (word : Option ℕ) →
    Does (replay profile apid words es) by id (Called (NextParam word)) →
    (word ≡ None) ↔ (taken_words profile apid words es id ≡ sent_words profile apid words es id)
