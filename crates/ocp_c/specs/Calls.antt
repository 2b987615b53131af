-- What a call through a handle answers and leaves: nothing if the handle is closed, else what the
-- engine's call does to what it holds: the world that the engine began in, all entries since then,
-- and how many of them were released.
use Rattle.std.specs.Prelude.{◌≡◌, ℕ, Option, Some, None, Result, Err}
use Rattle.ocp_table.specs.declared.answers.Slice.{Slice}
use Rattle.ocp_table.specs.declared.answers.Round.{Round}
use Rattle.ocp_world.specs.declared.answers.PutFault.{PutFault}
use Rattle.ocp_world.specs.declared.answers.PutFault.TheVariants as put
use Rattle.ocp_table.specs.declared.answers.StepOutcome.{StepOutcome}
use Rattle.ocp_table.specs.declared.answers.StepOutcome.TheVariants as S
use Rattle.ocp_debug.specs.declared.command.Command.{Command}
use Rattle.ocp_debug.specs.declared.command.DebugFault.{DebugFault}
use Rattle.ocp_debug.specs.declared.command.DebugFault.TheVariants as debug
use Rattle.ocp_world.specs.World.{Debug}
use Rattle.ocp_world.specs.After.{Answer, Requested, Stepped, Commanded, Written}
use Rattle.ocp_flight.specs.Flown.{Flown}
use Rattle.ocp_flight.specs.Calls.{answer_in, flown_after}
use Rattle.ocp_c.specs.declared.outcome.Outcome.{Outcome}
use Rattle.ocp_c.specs.declared.status.Status.{Status}
use Rattle.ocp_c.specs.declared.status.Status.TheVariants as status
use Rattle.ocp_c.specs.Statuses.{number_of, status_of_command}

-- the number of the answer
abbrev pub answers : Option Flown → (Flown → Status) → ℕ
answers None answer = number_of status.NotOpen
answers (Some flown) answer = number_of (answer flown)

-- what is held then
abbrev pub leaves : Option Flown → (Flown → Flown) → Option Flown
leaves None change = None
leaves (Some flown) change = Some (change flown)

-- what is written then
abbrev pub writes : {X : Type 0} → Option Flown → X → (Flown → X) → X
writes None before write = before
writes (Some flown) before write = write flown

-- ---- instructions

-- the outcome of an instruction event
abbrev pub outcome_of : Answer → StepOutcome
outcome_of (Stepped outcome) = outcome
outcome_of (Requested reports) = S.JournalFull
outcome_of (Commanded result) = S.JournalFull
outcome_of (Written result) = S.JournalFull

-- an outcome as C sees it; a refusal leaves what was there
abbrev pub outcome_or : StepOutcome → Outcome → Outcome
outcome_or S.Broke before = record { kind = 0; fault = 0 }
outcome_or S.Ran before = record { kind = 1; fault = 0 }
outcome_or S.Called before = record { kind = 2; fault = 0 }
outcome_or S.Ended before = record { kind = 3; fault = 0 }
outcome_or (S.Faulted number) before = record { kind = 4; fault = number }
outcome_or S.NotLoaded before = before
outcome_or S.NotRunning before = before
outcome_or S.JournalFull before = before

-- ---- the debugger

-- the result of a debugger's command
abbrev pub result_of : Answer → Result (Unit {0}) DebugFault
result_of (Commanded result) = result
result_of (Requested reports) = Err debug.JournalFull
result_of (Stepped outcome) = Err debug.JournalFull
result_of (Written result) = Err debug.JournalFull

-- a debugger's command to a procedure: what is answered, and what is held then
abbrev pub Obeys : Option Flown → ℕ → Command → ℕ → Option Flown → Type 0
Obeys held id command number left =
    (number ≡ answers held (λ flown.
    status_of_command (result_of (answer_in flown (Debug 0 id command)))))
    × (left ≡ leaves held (λ flown. flown_after flown (Debug 0 id command)))

-- ---- slices

-- a number of a slice whose last instruction was done; a refusal leaves the one before
abbrev pub number_by_outcome : StepOutcome → ℕ → ℕ → ℕ
number_by_outcome S.Broke count before = count
number_by_outcome S.Ran count before = count
number_by_outcome S.Called count before = count
number_by_outcome S.Ended count before = count
number_by_outcome (S.Faulted number) count before = count
number_by_outcome S.NotLoaded count before = before
number_by_outcome S.NotRunning count before = before
number_by_outcome S.JournalFull count before = before

-- the count of a slice that C gets
abbrev pub count_of_slice : Slice → ℕ → ℕ
count_of_slice slice before = number_by_outcome slice.last slice.count before

-- the number of the step that ended, and 65,536 if none did
abbrev pub step_number : Option ℕ → ℕ
step_number None = 65536
step_number (Some step) = step

-- the step of a round that C gets
abbrev pub step_of_round : Round → ℕ → ℕ
step_of_round round before = number_by_outcome round.last (step_number round.step) before

-- ---- the pool

-- the result of a write of a pool word
abbrev pub put_result_of : Answer → Result (Unit {0}) PutFault
put_result_of (Written result) = result
put_result_of (Requested reports) = Err put.JournalFull
put_result_of (Stepped outcome) = Err put.JournalFull
put_result_of (Commanded result) = Err put.JournalFull

abbrev pub word_status : Option ℕ → Status
word_status None = status.NoWord
word_status (Some word) = status.Done

abbrev pub word_or : Option ℕ → ℕ → ℕ
word_or None before = before
word_or (Some word) before = word
