-- What the program does for a job.
use Rattle.std.specs.Prelude.{◌≡◌, ℕ, Bool, true, List, Option, Result, Ok, Err}
use Rattle.ocp_ports.specs.Outcomes.{TellsReads, TellsWrites}
use Rattle.ocp_ports.specs.Reading.{IsShort, ReadsWhile}
use Rattle.ocp_ports.specs.declared.fault.ConsoleFault.{ConsoleFault}
use Rattle.ocp_commands.specs.Assembly.{Assembles}
use Rattle.ocp_commands.specs.Checks.{Checks}
use Rattle.ocp_commands.specs.Commands.{Writes}
use Rattle.ocp_commands.specs.Listings.{Lists}
use Rattle.ocp_words.specs.declared.job.Job.{Job}
use Rattle.ocp_words.specs.declared.job.Job.TheVariants.{Assemble, Check, List as Listing, Run}
use Rattle.ocp_words.specs.declared.job.Settings.{Settings}
use Rattle.ocp_console.specs.Crew.{CrewAnswers}
use Rattle.ocp_lines.specs.Reading.{IsWithin}
use Rattle.ocp_console.specs.Script.{IsWorkless, Prints, PrintsBy, WritesScript, transcript}
use Rattle.ocp.specs.Status.{status_of}

-- a run has done what it was asked for if it reached its script's end
abbrev pub answer_of_run : Result Unit ConsoleFault → Result Bool ConsoleFault
answer_of_run (Ok x) = Ok true
answer_of_run (Err fault) = Err fault

-- what a run writes for a script, and what it answers: for a script without `work` lines it is the
-- transcript, for every script what its lines write with this crew
pub record Runs (crew : CrewAnswers) (settings : Settings) (script : List ℕ)
    (old new : Option (List ℕ)) (answer : Result Bool ConsoleFault) : Type 0 where
  pub ending : Result Unit ConsoleFault
  pub answered : answer ≡ answer_of_run ending
  pub prints : IsWorkless script → Prints old new (transcript settings script) ending
  pub writes : PrintsBy old new (WritesScript crew settings script) ending

-- what the command of a job writes for an input, and what it answers: whether it did what it was
-- asked for, or a fault
abbrev pub Answers : CrewAnswers → Job → List ℕ → Option (List ℕ) → Option (List ℕ) →
    Result Bool ConsoleFault → Type 0
Answers crew (Assemble profile) input old new answer =
    Writes (Assembles profile input) old new answer
Answers crew (Check s) input old new answer =
    Writes (Checks s.profile s.pool_words input) old new answer
Answers crew Listing input old new answer = Writes (Lists input) old new answer
Answers crew (Run settings) input old new answer = Runs crew settings input old new answer

-- what the command of a job leaves of an input
abbrev pub Leaves : Job → List ℕ → Option (List ℕ) → Type 0
Leaves (Assemble profile) input left = ReadsWhile IsShort input left
Leaves (Check s) input left = ReadsWhile IsShort input left
Leaves Listing input left = ReadsWhile IsShort input left
Leaves (Run settings) input left = ReadsWhile IsWithin input left

-- what is written for a job and an input, and the exit status of the program: it is that of what
-- the command answers, which is a failed read or write if and only if one failed
pub record Performs (crew : CrewAnswers) (job : Job) (input : List ℕ) (old new : Option (List ℕ))
    (reads_before reads_after writes_before writes_after : ℕ) (status : ℕ) : Type 0 where
  pub answer : Result Bool ConsoleFault
  pub answers : Answers crew job input old new answer
  pub read : TellsReads reads_before reads_after answer
  pub write : TellsWrites writes_before writes_after answer
  pub ends : status ≡ status_of answer
