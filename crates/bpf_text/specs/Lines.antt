-- A line of assembly text by itself.
use Rattle.std.specs.Prelude.{◌≡◌, ◌≢◌, ℕ, List, [], ◌∷◌, Option, Some, None, codes}
use Rattle.bpf_types.specs.declared.line.Line.{Line}
use Rattle.bpf_types.specs.declared.line.Line.TheVariants as line
use Rattle.bpf_types.specs.declared.line.Extension.{Extension}
use Rattle.bpf_types.specs.declared.line.SwapWidth.{SwapWidth}
use Rattle.bpf_types.specs.Line.{IsLine, swap_width_bits, extension_width, extension_bits}
use Rattle.bpf_canonical.specs.Mnemonics.{mnemonic_name, mnemonic_of}
use Rattle.bpf_text.specs.Number.{IsNumeral}
use Rattle.bpf_text.specs.Tokens.{HasTokens}
use Rattle.bpf_text.specs.Fields.{IsRegister, IsImmediate, IsSecond, IsTarget, IsName}
use Rattle.bpf_text.specs.Grammar.{Form, Token, After, ◌⸴◌, Memory}

-- an instruction, the name that is in place of its distance, and the number that is in
-- place of its width if there is no such width
pub record Statement : Type 0 where
  pub line : Line
  pub name : Option (List ℕ)
  pub unknown_width : Option ℕ

-- the tokens are this value, and no others follow
abbrev pub Are : {V : Type 0} → Form V → V → List (List ℕ) → Type 0
Are F v tokens = F tokens v []

-- no name is in place of a distance
abbrev pub IsNameless : Statement → Type 0
IsNameless s = s.name ≡ None

-- no number is in place of a width
abbrev pub HasWidth : Statement → Type 0
HasWidth s = s.unknown_width ≡ None

-- the number of a width: that of the extension, or one that no extension of the class has
abbrev pub IsExtended : Extension → Option ℕ → ℕ → Type 0
IsExtended extension None n = n ≡ extension_bits extension
IsExtended extension (Some unknown) n =
    (n ≡ unknown)
    × ((other : Extension) → extension_width other ≡ extension_width extension →
    extension_bits other ≢ n)

-- the number of a width: that of the byte order instruction, or one that none has
abbrev pub IsSwapWidth : SwapWidth → Option ℕ → ℕ → Type 0
IsSwapWidth width None n = n ≡ swap_width_bits width
IsSwapWidth width (Some unknown) n =
    (n ≡ unknown) × ((other : SwapWidth) → swap_width_bits other ≢ n)

-- The operands of a statement with this instruction, its numbers as they are written.
abbrev pub HasOperands : Line → Statement → List (List ℕ) → Type 0
HasOperands (line.Arithmetic width operation dst operand) s tokens =
    IsNameless s × HasWidth s × Are (Token IsRegister ⸴ Token IsSecond) (dst, operand) tokens
HasOperands (line.Negate width dst) s tokens =
    IsNameless s × HasWidth s × Are (Token IsRegister) dst tokens
HasOperands (line.MoveExtended extension dst src) s tokens =
    IsNameless s × (n : ℕ) × IsExtended extension s.unknown_width n
    × Are (Token IsRegister ⸴ Token IsRegister ⸴ Token IsNumeral) (dst, (src, n)) tokens
HasOperands (line.ByteOrder order width dst) s tokens =
    IsNameless s × (n : ℕ) × IsSwapWidth width s.unknown_width n
    × Are (Token IsRegister ⸴ Token IsNumeral) (dst, n) tokens
HasOperands (line.Jump distance) s tokens =
    HasWidth s × Are (Token IsTarget) (distance, s.name) tokens
HasOperands (line.LongJump distance) s tokens =
    HasWidth s × Are (Token IsTarget) (distance, s.name) tokens
HasOperands (line.JumpIf width comparison dst operand distance) s tokens =
    HasWidth s × Are (Token IsRegister ⸴ Token IsSecond ⸴ Token IsTarget)
    (dst, (operand, (distance, s.name))) tokens
HasOperands (line.Call number) s tokens =
    IsNameless s × HasWidth s × Are (Token IsImmediate) number tokens
HasOperands (line.CallLocal distance) s tokens =
    HasWidth s × Are (After (codes "local") (Token IsTarget)) (distance, s.name) tokens
HasOperands line.Exit s tokens = IsNameless s × HasWidth s × (tokens ≡ [])
HasOperands (line.LoadWide dst value) s tokens =
    IsNameless s × HasWidth s × Are (Token IsRegister ⸴ Token IsNumeral) (dst, value) tokens
HasOperands (line.Load size dst base offset) s tokens =
    IsNameless s × HasWidth s × Are (Token IsRegister ⸴ Memory) (dst, (base, offset)) tokens
HasOperands (line.LoadExtended size dst base offset) s tokens =
    IsNameless s × HasWidth s × Are (Token IsRegister ⸴ Memory) (dst, (base, offset)) tokens
HasOperands (line.StoreImmediate size base offset value) s tokens =
    IsNameless s × HasWidth s × Are (Memory ⸴ Token IsImmediate) ((base, offset), value) tokens
HasOperands (line.Store size base offset src) s tokens =
    IsNameless s × HasWidth s × Are (Memory ⸴ Token IsRegister) ((base, offset), src) tokens

-- the operands of a statement
abbrev pub IsOperands : Statement → List (List ℕ) → Type 0
IsOperands s tokens = HasOperands s.line s tokens

-- an instruction: its word and its operands
abbrev pub IsForm : Statement → List (List ℕ) → Type 0
IsForm s tokens =
    (operands : List (List ℕ)) × (tokens ≡ mnemonic_name (mnemonic_of s.line) ∷ operands)
    × IsOperands s operands

-- nothing, or an instruction
abbrev pub IsBody : Option Statement → List (List ℕ) → Type 0
IsBody None tokens = tokens ≡ []
IsBody (Some s) tokens = IsForm s tokens

-- a line's label and its instruction
pub record TextLine : Type 0 where
  pub label : Option (List ℕ)
  pub body : Option Statement

abbrev pub HasLabel : Option (List ℕ) → Option Statement → List (List ℕ) → Type 0
HasLabel None body tokens = IsBody body tokens
HasLabel (Some name) body tokens =
    (others : List (List ℕ)) × (tokens ≡ name ∷ codes ":" ∷ others) × IsName name
    × IsBody body others

-- the line's text is written so
abbrev pub Writes : List ℕ → TextLine → Type 0
Writes text w = (tokens : List (List ℕ)) × HasTokens text tokens × HasLabel w.label w.body tokens

-- each number is in its range
abbrev pub Fits : Statement → Type 0
Fits s = IsLine s.line × HasWidth s

abbrev pub InRange : Option Statement → Type 0
InRange None = Unit {0}
InRange (Some s) = Fits s
