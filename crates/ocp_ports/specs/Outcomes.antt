-- What an answer states about the calls on its ports.
use Rattle.std.specs.Prelude.{◌≡◌, ◌<◌, ◌↔◌, ℕ, List, Option, Result, IsErrOf, MatchResult}
use Rattle.std.specs.Io.KnownBytes.{Appends}
use Rattle.ocp_ports.specs.declared.fault.ConsoleFault.{ConsoleFault}
use Rattle.ocp_ports.specs.declared.fault.ConsoleFault.TheVariants.{Read, Write}
use Rattle.ocp_ports.specs.Printing.{PrintsPrefix}

-- the answer is `Read` if and only if a read failed: then the count of failed reads rose
abbrev pub TellsReads : {T : Type 0} → ℕ → ℕ → Result T ConsoleFault → Type 0
TellsReads old new answer = IsErrOf answer Read ↔ (old < new)

-- the answer is `Write` if and only if a write failed: then the count of failed writes rose
abbrev pub TellsWrites : {T : Type 0} → ℕ → ℕ → Result T ConsoleFault → Type 0
TellsWrites old new answer = IsErrOf answer Write ↔ (old < new)

-- a text was written whole; or the answer is `Write`, and a prefix of it was written
abbrev pub PrintsText : {T : Type 0} → Option (List ℕ) → Option (List ℕ) → List ℕ →
    Result T ConsoleFault → Type 0
PrintsText old new text answer =
    MatchResult answer (λ _. Appends old new text)
    (λ fault. (fault ≡ Write) × PrintsPrefix old new text)

-- the count of failed writes is unchanged if a text was written whole, and otherwise it rose
abbrev pub CountsFailure : {T : Type 0} → ℕ → ℕ → Result T ConsoleFault → Type 0
CountsFailure old new answer = MatchResult answer (λ _. new ≡ old) (λ _. old < new)
