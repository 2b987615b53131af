-- What the two passes of the assembler answer.
use Rattle.std.specs.Prelude.{◌≡◌, ◌<◌, ◌+◌, ℕ, List, [], ◌∷◌, ◌++◌, length, map, Option, None, Result, Ok, Err, Bool, true, false, ◌⊎◌}
use Rattle.std.specs.List.{All}
use Rattle.std.specs.BTreeMap.{BTreeMap}
use denote.Ref.{Bor}
use Rattle.bpf_types.specs.declared.line.Line.{Line}
use Rattle.bpf_decode.specs.Images.{IsImageOf}
use Rattle.ocp_loader.specs.declared.fault.LoadFault.{LoadFault}
use Rattle.ocp_loader.specs.declared.fault.LoadFault.TheVariants as load
use Rattle.ocp_loader.specs.FaultNumbers.{slot_of}
use Rattle.bpf_assembler.specs.Mirror.Tables.{label_at}
use Rattle.bpf_text.specs.Lines.{TextLine, Writes, InRange, Statement}
use Rattle.bpf_text.specs.Judged.{text_of}
use Rattle.bpf_assembler.specs.Text.{label_place, end_of, entries_of, Entry, IsNew, AreDistinct, IsInstruction, AreInstructions, IsWritten}
use Rattle.bpf_assembler.specs.Faults.{HasFault, HasLineFault, MissesLabel, IsFirstMiss, IsLineOfSlot}
use Rattle.bpf_assembler.specs.declared.table.Row.{Row}
use Rattle.bpf_assembler.specs.declared.fault.Why.TheVariants as why
use Rattle.bpf_assembler.specs.declared.fault.AsmFault.{AsmFault}
use Rattle.bpf_assembler.specs.declared.fault.AsmFault.TheVariants.{Memory, At}

-- ---- the first pass

-- the map has the labels of the lines
abbrev pub AreLabels : BTreeMap (Bor (List ℕ)) ℕ → List TextLine → Type 0
AreLabels m ws = (name : List ℕ) → label_at m name ≡ label_place name 0 ws

-- what a row stands for
abbrev pub entry : Row → Entry
entry row =
    record {
      number = row.number;
      place = row.place;
      statement = record { line = row.line; name = text_of row.name; unknown_width = None };
    }

-- what is known of the lines so far
pub record Knows (m : BTreeMap (Bor (List ℕ)) ℕ) (rs : List Row) (n p : ℕ)
    (ws : List TextLine) : Type 0 where
  pub labels : AreLabels m ws
  pub rows : map entry rs ≡ entries_of 1 0 ws
  pub count : n ≡ length ws
  pub place : p ≡ end_of 0 ws
  pub distinct : AreDistinct [] ws

-- the label is new and known from now on; or it is not new
abbrev pub PutsLabel : Option (List ℕ) → BTreeMap (Bor (List ℕ)) ℕ → List TextLine →
    Result Bool AsmFault → Type 0
PutsLabel label new ws (Ok true) =
    IsNew label ws × ((body : Option Statement) →
    AreLabels new (ws ++ record { label = label; body = body } ∷ []))
PutsLabel label new ws (Ok false) = ¬ IsNew label ws
PutsLabel label new ws (Err Memory) = Unit {0}
PutsLabel label new ws (Err (At number y)) = ⊥

-- one more line is written, and known; or it is at fault
abbrev pub Adds : List ℕ → BTreeMap (Bor (List ℕ)) ℕ → List Row → ℕ → ℕ → List TextLine →
    Result Unit AsmFault → Type 0
Adds text m rows count place ws (Ok u) =
    (w : TextLine) × Writes text w × InRange w.body × Knows m rows count place (ws ++ w ∷ [])
Adds text m rows count place ws (Err Memory) = Unit {0}
Adds text m rows count place ws (Err (At n y)) = (n ≡ length ws + 1) × HasFault ws text y

-- the first pass is done: the text is lines that are written so, and known
pub record IsCollected (text : List ℕ) (m : BTreeMap (Bor (List ℕ)) ℕ)
    (rs : List Row) : Type 0 where
  pub lines : List TextLine
  pub written : IsWritten text lines
  pub labels : AreLabels m lines
  pub rows : map entry rs ≡ entries_of 1 0 lines

-- why the first pass failed: memory was refused, or the text has a first line at fault
abbrev pub IsFaultOfLines : List ℕ → AsmFault → Type 0
IsFaultOfLines text Memory = Unit {0}
IsFaultOfLines text (At n y) = HasLineFault text n y

-- ---- the second pass

-- the line is the instruction; or the instruction misses its label
abbrev pub Resolves : List TextLine → Entry → Result Line AsmFault → Type 0
Resolves ws e (Ok l) = IsInstruction ws e.place e.statement.line e.statement.name l
Resolves ws e (Err Memory) = ⊥
Resolves ws e (Err (At n y)) =
    (n ≡ e.number) × MissesLabel ws e.place e.statement.line e.statement.name y

-- the octets are the image of the instructions
pub record AreResolved (ws : List TextLine) (entries : List Entry) (octets : List ℕ) : Type 0 where
  pub lines : List Line
  pub instructions : AreInstructions ws entries lines
  pub image : IsImageOf octets lines

abbrev pub ResolvesAll : List TextLine → List Entry → {Z : Type 0} → (Z → List ℕ) →
    Result Z AsmFault → Type 0
ResolvesAll ws es octets (Ok v) = AreResolved ws es (octets v)
ResolvesAll ws es octets (Err Memory) = Unit {0}
ResolvesAll ws es octets (Err (At n y)) = IsFirstMiss ws es n y

-- ---- both passes

-- the text is lines that are written so, and the octets are the image of their instructions
pub record ArePassed (text : List ℕ) (rs : List Row) (octets : List ℕ) : Type 0 where
  pub lines : List TextLine
  pub written : IsWritten text lines
  pub rows : map entry rs ≡ entries_of 1 0 lines
  pub resolved : AreResolved lines (map entry rs) octets

-- ---- the line of a fault of the image

-- the line of the last instruction whose place is no greater than the slot, or 0 if there is
-- none
abbrev pub IsLineUpTo : List Entry → ℕ → ℕ → Type 0
IsLineUpTo entries slot number =
    ((number ≡ 0) × All (λ e. slot < e.place) entries) ⊎ IsLineOfSlot entries slot number

-- the fault of the image, as it is reported
abbrev pub IsReported : List Entry → LoadFault → AsmFault → Type 0
IsReported entries load.Memory f = f ≡ Memory
IsReported entries load.EmptyCode f = f ≡ At 0 (why.Load load.EmptyCode)
IsReported entries load.RaggedCode f = f ≡ At 0 (why.Load load.RaggedCode)
IsReported entries load.TooLong f = f ≡ At 0 (why.Load load.TooLong)
IsReported entries fault f =
    (number : ℕ) × (f ≡ At number (why.Load fault)) × IsLineUpTo entries (slot_of fault) number

-- the loader's answer for the image, its fault as it is reported
abbrev pub Reports : {V : Type 0} → List Entry → Result V LoadFault → Result V AsmFault → Type 0
Reports entries (Ok v) result = result ≡ Ok v
Reports entries (Err fault) result =
    (f : AsmFault) × (result ≡ Err f) × IsReported entries fault f
