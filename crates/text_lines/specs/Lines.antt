-- A text as a list of lines.
use Rattle.std.specs.Prelude.{ℕ, ◌==◌, if◌then◌else◌, List, [], ◌∷◌, map}
use Rattle.std.specs.Str.Lines.{strip_carriage_return}

-- A newline ends a line. Octets after the last newline are a line too, which is open.
pub data Line : Type 0 where
  Ended : List ℕ → Line
  Open : List ℕ → Line

-- an octet before the first line
abbrev pub onto : ℕ → List Line → List Line
onto octet [] = Open (octet ∷ []) ∷ []
onto octet (Ended line ∷ lines) = Ended (octet ∷ line) ∷ lines
onto octet (Open line ∷ lines) = Open (octet ∷ line) ∷ lines

-- a text cut at each newline
abbrev pub lines_of : List ℕ → List Line
lines_of [] = []
lines_of (octet ∷ octets) =
    if octet == 10 then Ended [] ∷ lines_of octets else onto octet (lines_of octets)

-- the octets of a line, a carriage return included and the newline not
abbrev pub octets_of : Line → List ℕ
octets_of (Ended line) = line
octets_of (Open line) = line

-- the line as it is read: a carriage return directly before its newline is no part of it
abbrev pub text_of : Line → List ℕ
text_of (Ended line) = strip_carriage_return line
text_of (Open line) = line

-- the lines of a text, as they are read
abbrev pub line_texts : List ℕ → List (List ℕ)
line_texts text = map text_of (lines_of text)
