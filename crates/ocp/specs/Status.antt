-- The exit status of the program.
use Rattle.std.specs.Prelude.{◌≡◌, ◌≢◌, ◌⊎◌, ℕ, Bool, if◌then◌else◌, Result, Ok, Err}
use Rattle.clap.specs.Values.{kind_of}
use Rattle.clap.specs.declared.error.Error.{Error}
use Rattle.clap.specs.declared.error.kind.ErrorKind.TheVariants.{DisplayHelp, DisplayVersion}
use Rattle.ocp_ports.specs.declared.fault.ConsoleFault.{ConsoleFault}
use Rattle.ocp_ports.specs.declared.fault.ConsoleFault.TheVariants as faults
use Rattle.ocp_words.specs.declared.job.WordsFault.{WordsFault}
use Rattle.ocp_words.specs.declared.job.WordsFault.TheVariants.{Usage, Memory}

-- with a fault of the input it is 1, and 3 if a device or the workers failed, or memory was
-- refused
abbrev pub status_of_fault : ConsoleFault → ℕ
status_of_fault faults.TooManyLines = 1
status_of_fault (faults.LineTooLong n) = 1
status_of_fault (faults.Syntax n) = 1
status_of_fault faults.Read = 3
status_of_fault faults.Write = 3
status_of_fault faults.Memory = 3
status_of_fault faults.Workers = 3

-- with a command's answer it is 0 if the command did what it was asked for, and 1 if it did
-- not
abbrev pub status_of : Result Bool ConsoleFault → ℕ
status_of (Ok done) = if done then 0 else 1
status_of (Err fault) = status_of_fault fault

-- the words ask for help or for the version, and are no mistake
abbrev pub AsksForText : Error → Type 0
AsksForText error = (kind_of error ≡ DisplayHelp) ⊎ (kind_of error ≡ DisplayVersion)

-- With words that are no job it is 2 if they are a mistake. It is 3 if memory was refused, or
-- if the text that they ask for was not printed, and else 0.
abbrev pub IsWordsStatus : WordsFault → ℕ → Type 0
IsWordsStatus Memory status = status ≡ 3
IsWordsStatus (Usage error) status =
    (AsksForText error → (status ≡ 0) ⊎ (status ≡ 3))
    × (kind_of error ≢ DisplayHelp → kind_of error ≢ DisplayVersion → status ≡ 2)
