-- How much of a script a run reads.
use Rattle.std.specs.Prelude.{◌≤◌, ℕ, List, [], ◌∷◌, length}
use Rattle.text_lines.specs.Lines.{Line, lines_of, octets_of}
use Rattle.ocp_ports.specs.declared.fault.TheConstants.{MAX_LINES, MAX_LINE_OCTETS}

-- none of the lines is too long
abbrev pub AreShort : List Line → Type 0
AreShort [] = Unit {0}
AreShort (line ∷ lines) = (length (octets_of line) ≤ MAX_LINE_OCTETS) × AreShort lines

-- a text that has neither too many lines nor one that is too long
pub record IsWithin (text : List ℕ) : Type 0 where
  pub few : length (lines_of text) ≤ MAX_LINES
  pub short : AreShort (lines_of text)
