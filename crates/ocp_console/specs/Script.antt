-- The transcript of a script, and what of it went out.
use Rattle.std.specs.Prelude.{◌≡◌, ◌≢◌, ◌⊎◌, ℕ, ◌+◌, nat_lt, nat_le, if◌then◌else◌, List, [], ◌∷◌, ◌++◌, length, Option, Some, codes, Result, Ok, Err}
use Rattle.std.specs.Io.KnownBytes.{Appends}
use Rattle.std.specs.Option.{option_map_or}
use Rattle.text_lines.specs.Lines.{Line, lines_of, octets_of, text_of}
use Rattle.ocp_profile.specs.declared.profile.Profile.{Profile}
use Rattle.ocp_ports.specs.declared.fault.ConsoleFault.{ConsoleFault}
use Rattle.ocp_ports.specs.declared.fault.ConsoleFault.TheVariants as faults
use Rattle.ocp_ports.specs.Printing.{PrintsPrefix, error_line}
use Rattle.ocp_words.specs.declared.job.Settings.{Settings}
use Rattle.ocp_lines.specs.Grammar.{Work, command_of}
use Rattle.ocp_ports.specs.declared.crew.CrewFault.{CrewFault}
use Rattle.ocp_console.specs.Answering.{State, Effect, Does, Works, opening, respond}
use Rattle.ocp_ports.specs.Faults.{crew_fault}
use Rattle.ocp_console.specs.Crew.{CrewAnswers, HasDone, HasRefused}
use Rattle.ocp_ports.specs.declared.fault.TheConstants.{MAX_LINES, MAX_LINE_OCTETS}

-- what is printed, and how the run ends
abbrev pub Run : Type 0
Run = List ℕ × Result Unit ConsoleFault

-- a text, and then a run
abbrev pub with_prefix : List ℕ → Run → Run
with_prefix text run = (text ++ run.0, run.1)

-- what a line leads to: it ends the run with the fault of this name, or it has this effect
pub data Step : Type 0 where
  Ends : List ℕ → ConsoleFault → Step
  Goes : Effect → Step

-- Of the faults of a line, after some lines before it, the first one ends the run: there are too
-- many lines, it has too many octets, it is no command.
abbrev pub step_of : State → ℕ → Line → Step
step_of state before line =
    if nat_le MAX_LINES before then Ends (codes "TooManyLines") faults.TooManyLines
    else if nat_lt MAX_LINE_OCTETS (length (octets_of line)) then
    Ends (codes "LineTooLong") (faults.LineTooLong (before + 1))
    else
    option_map_or Goes (respond state (text_of line))
    (Ends (codes "Syntax") (faults.Syntax (before + 1)))

-- ---- a script without `work` lines

-- the run of a line of this number, and of what follows it; it stops before a `work` line
abbrev pub run_step : (State → Run) → ℕ → Step → Run
run_step rest number (Ends name fault) = (error_line number name, Err fault)
run_step rest number (Goes (Does next)) = with_prefix next.1 (rest next.0)
run_step rest number (Goes (Works workers budget turns)) = ([], Ok tt)

-- the run of these lines from a state on, after some lines before them
unfoldable pub run_of : State → ℕ → List Line → Run
run_of state before [] = ([], Ok tt)
run_of state before (line ∷ lines) =
    run_step (λ next. run_of next (before + 1) lines) (before + 1) (step_of state before line)

-- the transcript of a script, up to its first `work` line if it has one, and how its run ends
abbrev pub transcript : Settings → List ℕ → Run
transcript settings octets = run_of (opening settings) 0 (lines_of octets)

-- none of these lines is a `work` line, in either profile
abbrev pub AreWorkless : List Line → Type 0
AreWorkless [] = Unit {0}
AreWorkless (line ∷ lines) =
    ((profile : Profile) (workers budget turns : ℕ) →
    command_of profile (text_of line) ≢ Some (Work workers budget turns))
    × AreWorkless lines

-- a script without `work` lines
abbrev pub IsWorkless : List ℕ → Type 0
IsWorkless octets = AreWorkless (lines_of octets)

-- The run's text went out, and it had this ending; or there was a fault of the device or of memory,
-- and a prefix of it went out.
abbrev pub Prints : Option (List ℕ) → Option (List ℕ) → Run → Result Unit ConsoleFault → Type 0
Prints old new run (Ok x) = Appends old new run.0 × (run.1 ≡ Ok x)
Prints old new run (Err faults.Read) = PrintsPrefix old new run.0
Prints old new run (Err faults.Write) = PrintsPrefix old new run.0
Prints old new run (Err faults.Memory) = PrintsPrefix old new run.0
Prints old new run (Err faults.Workers) = Appends old new run.0 × (run.1 ≡ Err faults.Workers)
Prints old new run (Err faults.TooManyLines) =
    Appends old new run.0 × (run.1 ≡ Err faults.TooManyLines)
Prints old new run (Err (faults.LineTooLong n)) =
    Appends old new run.0 × (run.1 ≡ Err (faults.LineTooLong n))
Prints old new run (Err (faults.Syntax n)) = Appends old new run.0 × (run.1 ≡ Err (faults.Syntax n))

-- ---- every script, with a crew

-- what may be written, and how the run may then end
abbrev pub Writing : Type 1
Writing = List ℕ → Result Unit ConsoleFault → Type 0

-- a failed read, a failed write and being out of memory, which end a run at any point
abbrev pub IsFailure : Result Unit ConsoleFault → Type 0
IsFailure (Ok x) = ⊥
IsFailure (Err faults.Read) = Unit {0}
IsFailure (Err faults.Write) = Unit {0}
IsFailure (Err faults.Memory) = Unit {0}
IsFailure (Err faults.Workers) = ⊥
IsFailure (Err faults.TooManyLines) = ⊥
IsFailure (Err (faults.LineTooLong n)) = ⊥
IsFailure (Err (faults.Syntax n)) = ⊥

-- there was a failure, and a prefix of this text was written
abbrev pub BreaksOff : List ℕ → Writing
BreaksOff text written result =
    IsFailure result × (unwritten : List ℕ) × (text ≡ written ++ unwritten)

-- this text was written, and then something more; or there was a failure before its end
abbrev pub Follows : List ℕ → Writing → Writing
Follows text More written result =
    ((more : List ℕ) × (written ≡ text ++ more) × More more result) ⊎ BreaksOff text written result

-- nothing more is written, and the run has this ending
abbrev pub Stops : Result Unit ConsoleFault → Writing
Stops ending written result = (written ≡ []) × (result ≡ ending)

-- the line of a fault, and the end of the run
abbrev pub FaultLine : ℕ → List ℕ → ConsoleFault → Writing
FaultLine number name fault = Follows (error_line number name) (Stops (Err fault))

-- a line of this number that has a fault, or an effect: then it is done, or the crew refuses
abbrev pub AtStep : CrewAnswers → (State → Writing) → State → ℕ → Step → Writing
AtStep crew Rest state number (Ends name fault) written result =
    FaultLine number name fault written result
AtStep crew Rest state number (Goes effect) written result =
    ((done : State × List ℕ) × HasDone crew state effect done
    × Follows done.1 (Rest done.0) written result)
    ⊎ ((refused : CrewFault) × HasRefused crew state effect refused
    × Stops (Err (crew_fault refused)) written result)

-- what the run of these lines writes from a state on, after some lines before them, with this crew
unfoldable pub Writes : CrewAnswers → State → ℕ → List Line → Writing
Writes crew state before [] written result =
    BreaksOff [] written result ⊎ Stops (Ok tt) written result
Writes crew state before (line ∷ lines) written result =
    BreaksOff [] written result
    ⊎ AtStep crew (λ next. Writes crew next (before + 1) lines) state (before + 1)
    (step_of state before line) written result

-- what the run of a script writes, on a new engine of these settings and with this crew
abbrev pub WritesScript : CrewAnswers → Settings → List ℕ → Writing
WritesScript crew settings octets = Writes crew (opening settings) 0 (lines_of octets)

-- what went out is what may be written
abbrev pub PrintsBy : Option (List ℕ) → Option (List ℕ) → Writing →
    Result Unit ConsoleFault → Type 0
PrintsBy old new May result = (written : List ℕ) × Appends old new written × May written result
