-- What the readers of a line answer.
use Rattle.std.specs.Prelude.{◌≡◌, ℕ, ℤ, List, Option, Some, None, Result, Ok, Err, map}
use denote.Ref.{Bor}
use Rattle.bpf_canonical.specs.declared.mnemonic.Mnemonic.{Mnemonic}
use Rattle.bpf_canonical.specs.Mnemonics.{mnemonic_of}
use Rattle.bpf_text.specs.Lines.{IsOperands, IsForm, Statement, TextLine, Writes, Fits, InRange, IsBody, HasLabel}
use Rattle.bpf_text.specs.declared.line.Statement.{Statement as LentStatement}
use Rattle.bpf_text.specs.declared.line.TextLine.{TextLine as LentLine}
use Rattle.bpf_text.specs.declared.line.LineFault.{LineFault}
use Rattle.bpf_text.specs.declared.line.LineFault.TheVariants.{Syntax, Range}

-- the tokens as they are written
abbrev pub texts : List (Bor (List ℕ)) → List (List ℕ)
texts tokens = map (λ token. token.now) tokens

-- a name, if there is one
abbrev pub text_of : Option (Bor (List ℕ)) → Option (List ℕ)
text_of None = None
text_of (Some name) = Some name.now

-- a distance and a name, as they are written
abbrev pub target_of : ℤ × Option (Bor (List ℕ)) → ℤ × Option (List ℕ)
target_of p = (p.0, text_of p.1)

-- an instruction, as it is written
abbrev pub as_statement : LentStatement → Statement
as_statement s = record { line = s.line; name = text_of s.name; unknown_width = None }

-- the instruction of a line, if it has one
abbrev pub statement_of : Option LentStatement → Option Statement
statement_of None = None
statement_of (Some s) = Some (as_statement s)

-- a line: its label and its instruction
abbrev pub written_line : LentLine → TextLine
written_line p = record { label = text_of p.label; body = statement_of p.body }

-- what was read is written so, and in its range; or nothing is written so; or something is, and out
-- of its range
abbrev pub Gives : {V : Type 0} → {W : Type 0} → (V → W) → (W → Type 0) → (W → Type 0) →
    Result V LineFault → Type 0
Gives {V} {W} view Is Fits (Ok v) = Is (view v) × Fits (view v)
Gives {V} {W} view Is Fits (Err Syntax) = (w : W) → ¬ Is w
Gives {V} {W} view Is Fits (Err Range) = (w : W) × Is w × ¬ Fits w

-- a whole line
abbrev pub JudgesLine : List ℕ → Result LentLine LineFault → Type 0
JudgesLine text result = Gives written_line (Writes text) (λ w. InRange w.body) result

-- a line's tokens
abbrev pub JudgesTokens : List (List ℕ) → Result LentLine LineFault → Type 0
JudgesTokens tokens result =
    Gives written_line (λ w. HasLabel w.label w.body tokens) (λ w. InRange w.body) result

-- the tokens after a label
abbrev pub JudgesBody : List (List ℕ) → Result (Option LentStatement) LineFault → Type 0
JudgesBody tokens result = Gives statement_of (λ s. IsBody s tokens) InRange result

-- an instruction
abbrev pub JudgesForm : List (List ℕ) → Result LentStatement LineFault → Type 0
JudgesForm tokens result = Gives as_statement (λ s. IsForm s tokens) Fits result

-- the operands of one mnemonic
abbrev pub Judges : Mnemonic → List (List ℕ) → Result LentStatement LineFault → Type 0
Judges m tokens result =
    Gives as_statement (λ s. (mnemonic_of s.line ≡ m) × IsOperands s tokens) Fits
    result
