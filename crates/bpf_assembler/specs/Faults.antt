-- The fault of an assembly text.
use Rattle.std.specs.Prelude.{◌≡◌, ◌<◌, ◌≤◌, ◌+◌, ℕ, List, [], ◌∷◌, ◌++◌, length, Option, Some, None, Err, ◌⊎◌}
use Rattle.std.specs.List.{All}
use Rattle.ocp_profile.specs.declared.profile.Profile.{Profile}
use Rattle.bpf_types.specs.declared.line.Line.{Line}
use Rattle.bpf_types.specs.Line.{IsLine}
use Rattle.bpf_decode.specs.Images.{image_of}
use Rattle.ocp_loader.specs.declared.fault.LoadFault.{LoadFault}
use Rattle.ocp_loader.specs.declared.fault.LoadFault.TheVariants as load
use Rattle.ocp_loader.specs.FaultNumbers.{slot_of}
use Rattle.ocp_loader.specs.LoadResult.{load_result}
use Rattle.text_lines.specs.Lines.{line_texts}
use Rattle.bpf_text.specs.Lines.{TextLine, Writes, InRange}
use Rattle.bpf_assembler.specs.Text.{EachWritten, label_place, IsNew, AreDistinct, Entry, entries_of, with_target, AreInstructions, IsWritten}
use Rattle.bpf_assembler.specs.declared.fault.Why.{Why}
use Rattle.bpf_assembler.specs.declared.fault.Why.TheVariants as why

-- ---- faults of a line by itself, and by the labels before it

-- the fault of a line after others
abbrev pub HasFault : List TextLine → List ℕ → Why → Type 0
HasFault before line why.Syntax = (w : TextLine) → ¬ Writes line w
HasFault before line why.Range = (w : TextLine) × Writes line w × ¬ InRange w.body
HasFault before line why.DuplicateLabel =
    (w : TextLine) × Writes line w × InRange w.body × ¬ IsNew w.label before
HasFault before line why.UnknownLabel = ⊥
HasFault before line (why.Load fault) = ⊥

-- the first line of the text that has such a fault has this number
pub record HasLineFault (text : List ℕ) (number : ℕ) (y : Why) : Type 0 where
  pub before : List (List ℕ)
  pub line : List ℕ
  pub after : List (List ℕ)
  pub lines : List TextLine
  pub order : line_texts text ≡ before ++ line ∷ after
  pub counted : number ≡ length before + 1
  pub each : EachWritten before lines
  pub distinct : AreDistinct [] lines
  pub fault : HasFault lines line y

-- ---- faults of the names in instructions, if no line has one of those

-- the instruction names a label that no line has, or one that is too far
abbrev pub MissesLabel : List TextLine → ℕ → Line → Option (List ℕ) → Why → Type 0
MissesLabel all place given (Some name) why.UnknownLabel = label_place name 0 all ≡ None
MissesLabel all place given (Some name) why.Range =
    (to : ℕ) × (label_place name 0 all ≡ Some to) × ¬ IsLine (with_target given place to)
MissesLabel all place given name y = ⊥

-- the first of these instructions that misses its label is of the line of this number
pub record IsFirstMiss (all : List TextLine) (entries : List Entry) (number : ℕ)
    (y : Why) : Type 0 where
  pub before : List Entry
  pub entry : Entry
  pub after : List Entry
  pub earlier : List Line
  pub order : entries ≡ before ++ entry ∷ after
  pub instructions : AreInstructions all before earlier
  pub counted : number ≡ entry.number
  pub miss : MissesLabel all entry.place entry.statement.line entry.statement.name y

pub record HasNameFault (text : List ℕ) (number : ℕ) (y : Why) : Type 0 where
  pub lines : List TextLine
  pub written : IsWritten text lines
  pub first : IsFirstMiss lines (entries_of 1 0 lines) number y

-- ---- faults of the image, if the text means instructions

-- the line of this number has the last of these instructions whose place is no greater than the
-- slot
pub record IsLineOfSlot (entries : List Entry) (slot number : ℕ) : Type 0 where
  pub before : List Entry
  pub entry : Entry
  pub after : List Entry
  pub order : entries ≡ before ++ entry ∷ after
  pub counted : number ≡ entry.number
  pub reached : entry.place ≤ slot
  pub later : All (λ e. slot < e.place) after

-- the line of the instruction at the fault's slot; a fault of the image's length has line 0, and so
-- has Memory, which is none of an image
abbrev pub IsLineOf : LoadFault → List Entry → ℕ → Type 0
IsLineOf load.EmptyCode entries number = number ≡ 0
IsLineOf load.RaggedCode entries number = number ≡ 0
IsLineOf load.TooLong entries number = number ≡ 0
IsLineOf load.Memory entries number = number ≡ 0
IsLineOf fault entries number = IsLineOfSlot entries (slot_of fault) number

-- the image of the instructions may not be run
pub record HasLoadFault (profile : Profile) (text : List ℕ) (number : ℕ) (fault : LoadFault)
    : Type 0 where
  pub lines : List TextLine
  pub instructions : List Line
  pub written : IsWritten text lines
  pub meant : AreInstructions lines (entries_of 1 0 lines) instructions
  pub refused : load_result profile (image_of instructions) ≡ Err fault
  pub counted : IsLineOf fault (entries_of 1 0 lines) number

abbrev pub IsLoadFault : Profile → List ℕ → ℕ → Why → Type 0
IsLoadFault profile text number (why.Load fault) = HasLoadFault profile text number fault
IsLoadFault profile text number y = ⊥

-- ---- the fault of a text

-- The first line that has a fault by itself and by the labels before it; if no line has one, the
-- first instruction that misses its label; if none does, the fault of the image.
abbrev pub IsFault : Profile → List ℕ → ℕ → Why → Type 0
IsFault profile text number y =
    HasLineFault text number y ⊎ HasNameFault text number y ⊎ IsLoadFault profile text number y
