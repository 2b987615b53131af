-- What an assembly text means: its lines, the places of its labels, and its instructions.
use Rattle.std.specs.Prelude.{◌≡◌, ◌+◌, ℕ, ℤ, pos, ◌-ℤ◌, List, [], ◌∷◌, ◌++◌, Option, Some, None, Bool, false, if◌then◌else◌}
use Rattle.std.specs.Str.{bytes_eq}
use Rattle.text_lines.specs.Lines.{line_texts}
use Rattle.bpf_types.specs.declared.line.Line.{Line}
use Rattle.bpf_types.specs.declared.line.Line.TheVariants as line
use Rattle.bpf_types.specs.Line.{IsLine, slots_in}
use Rattle.bpf_text.specs.Lines.{TextLine, Writes, InRange, Statement}

-- ---- lines that are written one after another

-- each line is written so, its numbers in their ranges
abbrev pub EachWritten : List (List ℕ) → List TextLine → Type 0
EachWritten [] [] = Unit {0}
EachWritten [] (w ∷ ws) = ⊥
EachWritten (l ∷ ls) [] = ⊥
EachWritten (l ∷ ls) (w ∷ ws) = Writes l w × InRange w.body × EachWritten ls ws

-- ---- places, counted in slots

-- a wide load has two slots, any other instruction one, a line without one none
abbrev pub slots : Option Statement → ℕ
slots None = 0
slots (Some s) = slots_in s.line

-- the label of a line is this name
abbrev pub has_label : List ℕ → Option (List ℕ) → Bool
has_label name None = false
has_label name (Some label) = bytes_eq label name

-- the place of the name's label in these lines, of which the first begins at this place: that of
-- the next instruction
abbrev pub label_place : List ℕ → ℕ → List TextLine → Option ℕ
label_place name place [] = None
label_place name place (w ∷ ws) =
    if has_label name w.label then Some place else label_place name (place + slots w.body) ws

-- the slot after these lines, of which the first begins at this place
abbrev pub end_of : ℕ → List TextLine → ℕ
end_of place [] = place
end_of place (w ∷ ws) = end_of (place + slots w.body) ws

-- the label is none of those of the lines
abbrev pub IsNew : Option (List ℕ) → List TextLine → Type 0
IsNew None ws = Unit {0}
IsNew (Some name) ws = label_place name 0 ws ≡ None

-- each label is new after the lines before it
abbrev pub AreDistinct : List TextLine → List TextLine → Type 0
AreDistinct before [] = Unit {0}
AreDistinct before (w ∷ ws) = IsNew w.label before × AreDistinct (before ++ w ∷ []) ws

-- ---- instructions

-- an instruction as it is written, with the number of its line and its place
pub record Entry : Type 0 where
  pub number : ℕ
  pub place : ℕ
  pub statement : Statement

abbrev pub entry_of : ℕ → ℕ → Option Statement → List Entry
entry_of number place None = []
entry_of number place (Some s) = record { number = number; place = place; statement = s } ∷ []

-- the instructions of these lines, of which the first has this number and begins at this place
abbrev pub entries_of : ℕ → ℕ → List TextLine → List Entry
entries_of number place [] = []
entries_of number place (w ∷ ws) =
    entry_of number place w.body ++ entries_of (number + 1) (place + slots w.body) ws

-- the jump or the local call, with this distance
abbrev pub with_distance : Line → ℤ → Line
with_distance (line.Jump old) distance = line.Jump distance
with_distance (line.LongJump old) distance = line.LongJump distance
with_distance (line.JumpIf width comparison dst operand old) distance =
    line.JumpIf width comparison dst operand distance
with_distance (line.CallLocal old) distance = line.CallLocal distance
with_distance l distance = l

-- the jump or the local call at a place, going to another place: distances count from the next slot
-- (RFC 9669, section 4.3)
abbrev pub with_target : Line → ℕ → ℕ → Line
with_target l place to = with_distance l (pos to -ℤ pos (place + 1))

-- the instruction at a place is the line: as it is written, or going to the place of the label that
-- it names, if its distance is in range
abbrev pub IsInstruction : List TextLine → ℕ → Line → Option (List ℕ) → Line → Type 0
IsInstruction all place given None l = l ≡ given
IsInstruction all place given (Some name) l =
    (to : ℕ) × (label_place name 0 all ≡ Some to) × IsLine l × (l ≡ with_target given place to)

abbrev pub AreInstructions : List TextLine → List Entry → List Line → Type 0
AreInstructions all [] [] = Unit {0}
AreInstructions all [] (l ∷ ls) = ⊥
AreInstructions all (e ∷ es) [] = ⊥
AreInstructions all (e ∷ es) (l ∷ ls) =
    IsInstruction all e.place e.statement.line e.statement.name l × AreInstructions all es ls

-- the lines of the text are written so, and no label occurs twice
pub record IsWritten (text : List ℕ) (ws : List TextLine) : Type 0 where
  pub each : EachWritten (line_texts text) ws
  pub distinct : AreDistinct [] ws

-- the text means these instructions
pub record Means (text : List ℕ) (ls : List Line) : Type 0 where
  pub lines : List TextLine
  pub written : IsWritten text lines
  pub instructions : AreInstructions lines (entries_of 1 0 lines) ls
