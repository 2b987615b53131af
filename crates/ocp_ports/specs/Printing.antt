-- What is printed, and what of it was written.
use Rattle.std.specs.Prelude.{◌≡◌, ℕ, List, ◌++◌, Option, codes}
use Rattle.std.specs.Io.KnownBytes.{Appends}
use Rattle.std.specs.Fmt.{decimal}

-- the line of a fault: the number of the line or the slot at fault, or 0, and the fault's name
abbrev pub error_line : ℕ → List ℕ → List ℕ
error_line number name = codes "error " ++ decimal number ++ codes " " ++ name ++ codes "\n"

-- a prefix of the text was written
abbrev pub PrintsPrefix : Option (List ℕ) → Option (List ℕ) → List ℕ → Type 0
PrintsPrefix old new text = (sent later : List ℕ) × (text ≡ sent ++ later) × Appends old new sent
