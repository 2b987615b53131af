-- Labels and the jumps that name them, in words of the image (RFC 9669, section 4.3).
use Rattle.std.specs.Prelude.{◌≡◌, ◌+◌, ℕ, pos, ◌-ℤ◌, List, [], ◌∷◌, ◌++◌, length, take, Option, Some, None}
use Rattle.bpf_types.specs.declared.line.Line.{Line}
use Rattle.ocp_loader.specs.Image.{target_of}
use Rattle.ocp_loader.specs.Places.{place_of}
use Rattle.bpf_text.specs.Lines.{TextLine, Statement}
use Rattle.bpf_assembler.specs.Text.{with_distance}

-- the instruction of a line, before others
abbrev pub and_then : Option Statement → List Statement → List Statement
and_then None others = others
and_then (Some s) others = s ∷ others

-- the instructions that the lines have, as they are written
abbrev pub statements : List TextLine → List Statement
statements [] = []
statements (w ∷ ws) = and_then w.body (statements ws)

-- The name is the label of one of these lines, and its place in the image is the number of slots of
-- the instructions that are written before it: so it is that of the next instruction, or at the end
-- of the text the slot after the last one.
pub record IsLabelAt
    (name : List ℕ) (ws : List TextLine) (ls : List Line) (place : ℕ) : Type 0 where
  pub before : List TextLine
  pub line : TextLine
  pub after : List TextLine
  pub order : ws ≡ before ++ line ∷ after
  pub label : line.label ≡ Some name
  pub slots : place ≡ place_of (take (length (statements before)) ls)

-- the instruction at a slot of the image is as it is written; or it has the distance that leads to
-- the label it names
abbrev pub IsMeantBy : List TextLine → List Line → ℕ → Line → Option (List ℕ) → Line → Type 0
IsMeantBy ws ls slot given None l = l ≡ given
IsMeantBy ws ls slot given (Some name) l =
    (to : ℕ) × IsLabelAt name ws ls to × (l ≡ with_distance given (pos to -ℤ pos (slot + 1)))
    × (target_of slot l ≡ Some (pos to))
