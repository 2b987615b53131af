-- Where in a line a hint may point.
use Rattle.std.specs.Prelude.{◌≤◌, ℕ, List, length}

-- the column is that of an octet of the line, or the one after the last
abbrev pub IsWithin : List ℕ → ℕ → Type 0
IsWithin line column = column ≤ length line
