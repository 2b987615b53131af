-- What is asked of an engine: what it answers, and what its journal gains.
use Rattle.std.specs.Prelude.{◌≡◌, ℕ, ◌==◌, if◌then◌else◌, List, [], ◌∷◌, ◌++◌, map, Option, Some, None, Result, Ok, Err, OnOk, OnErr}
use Rattle.ocp_table.specs.declared.answers.StepOutcome.{StepOutcome}
use Rattle.ocp_table.specs.declared.answers.StepOutcome.TheVariants as S
use Rattle.ocp_table.specs.declared.answers.Slice.{Slice}
use Rattle.ocp_world.specs.declared.answers.EngineFault.{EngineFault}
use Rattle.ocp_world.specs.World.{Event, Step}
use Rattle.ocp_world.specs.After.{Answer, Requested, Stepped, Commanded, Written, is_accepted}
use Rattle.ocp_world.specs.Answers.{Answers}
use Rattle.ocp_core.specs.declared.answers.CommitOutcome.{CommitOutcome}
use Rattle.ocp_core.specs.declared.answers.CommitOutcome.TheVariants as C
use Rattle.ocp_core.specs.declared.event.Entry as N
use Rattle.ocp_core.specs.Log.{Log, Asked, Steps, Drained, entry_for, answer_in, log_after}
use Rattle.ocp_core.specs.Marks.{MarkedEntry, entries_with_marks}
use Rattle.ocp_core.specs.Journal.{entry_with_mark}

-- the reports of an answer, without the rest of it
abbrev pub reports_in : {E : Type 0} → Result (List (List ℕ) × E) EngineFault
    → Result (List (List ℕ)) EngineFault
reports_in (Ok answer) = Ok answer.0
reports_in (Err fault) = Err fault

-- the answer is that of the event on the old journal, and the new journal is the one that the event
-- leaves; if the event finds no memory, the journal stays
abbrev pub Enters : Log → Log → Event → Answer → Type 0
Enters old new e (Requested result) =
    Answers result (answer_in old e)
    × OnOk result (new ≡ log_after old e)
    × OnErr result (new ≡ old)
Enters old new e (Stepped outcome) = (Stepped outcome ≡ answer_in old e) × (new ≡ log_after old e)
Enters old new e (Commanded result) = (Commanded result ≡ answer_in old e) × (new ≡ log_after old e)
Enters old new e (Written result) = (Written result ≡ answer_in old e) × (new ≡ log_after old e)

-- what an event with this answer adds to the journal: its entry with the answer as its mark if the
-- answer accepts, and nothing if it refuses
abbrev pub event_entries : Event → Answer → List MarkedEntry
event_entries e answer =
    if is_accepted answer then record { entry = entry_for e; mark = answer } ∷ [] else []

-- the entry of a request, and that of a drain, with the reports that were answered
abbrev pub marked_request : ℕ → ℕ → List ℕ → List (List ℕ) → MarkedEntry
marked_request by time octets reports =
    record { entry = Asked by time octets; mark = Requested (Ok reports) }

abbrev pub marked_drain : ℕ → ℕ → List (List ℕ) → MarkedEntry
marked_drain by time reports = record { entry = Drained by time; mark = Requested (Ok reports) }

-- the entry, if there is one
abbrev pub entries_in : {A : Type 0} → Option (N.Entry A) → List MarkedEntry
entries_in None = []
entries_in (Some entry) = entry_with_mark entry ∷ []

-- `count` instructions of one procedure, and the outcome of the last
abbrev pub count_entries : ℕ → ℕ → ℕ → StepOutcome → List MarkedEntry
count_entries by id count last = record { entry = Steps by id count; mark = Stepped last } ∷ []

-- an instruction
abbrev pub step_entries : ℕ → ℕ → StepOutcome → List MarkedEntry
step_entries by id outcome = event_entries (Step by id) (Stepped outcome)

-- a slice, which is refused if it did no instruction
abbrev pub slice_entries : ℕ → ℕ → Slice → List MarkedEntry
slice_entries by id slice =
    if slice.count == 0 then [] else count_entries by id slice.count slice.last

-- a work, whose instructions all ran
abbrev pub commit_entries : ℕ → ℕ → CommitOutcome → List MarkedEntry
commit_entries by id C.Empty = []
commit_entries by id C.Stale = []
commit_entries by id C.JournalFull = []
commit_entries by id (C.Committed count) = count_entries by id count S.Ran

-- the journal is the old one followed by these entries, and their marks are those of its replay
pub record Grows (old new : Log) (entries : List MarkedEntry) : Type 0 where
  pub journal :
      new ≡ record old { entries = old.entries ++ map (λ (m : MarkedEntry). m.entry) entries }
  pub marks : entries_with_marks new ≡ entries_with_marks old ++ entries
