-- What the cursor over an instruction's operands reads.
use Rattle.std.specs.Prelude.{◌≡◌, ◌∷◌, [], ℕ, List, Bool, true, false, Option, Some, None, Result, Ok, Err, ◌⊎◌}
use denote.Ref.{Bor}
use Rattle.bpf_canonical.specs.declared.mnemonic.Mnemonic.{Mnemonic}
use Rattle.bpf_text.specs.Grammar.{Form}
use Rattle.bpf_text.specs.Judged.{texts, Judges}
use Rattle.bpf_text.specs.declared.line.Statement.{Statement as LentStatement}
use Rattle.bpf_text.specs.declared.line.LineFault.{LineFault}
use Rattle.bpf_text.specs.declared.line.LineFault.TheVariants.{Syntax, Range}
use Rattle.bpf_text.specs.declared.operands.Operands.{Operands}

-- the tokens that are left, and whether a number was out of its range
abbrev pub State : Type 0
State = List (List ℕ) × Bool

abbrev pub state : Operands → State
state operands = (texts operands.rest.now, operands.out_of_range)

-- The value that is written is read, and nothing is noted; or it is out of its range, and this is
-- noted. Whatever is written at the front, the same tokens are left.
pub record Success {V W : Type 0} (view : V → W) (F : Form W) (Fits : W → Type 0)
    (old : State) (v : V) (new : State) : Type 0 where
  pub written : W
  pub is : F old.0 written new.0
  pub kept : (Fits written × (view v ≡ written) × (new.1 ≡ old.1))
      ⊎ ((¬ Fits written) × (new.1 ≡ true))
  pub only : (w : W) → (rest : List (List ℕ)) → F old.0 w rest → rest ≡ new.0

-- a value of this form is read, or nothing of the form is at the front
abbrev pub Reads : {V W : Type 0} → (V → W) → Form W → (W → Type 0) → State → Option V → State →
    Type 0
Reads view F Fits old None new = (w : _) → (rest : List (List ℕ)) → ¬ F old.0 w rest
Reads view F Fits old (Some v) new = Success view F Fits old v new

-- the first token is taken, if there is one
abbrev pub Takes : State → Option (Bor (List ℕ)) → State → Type 0
Takes old None new = old.0 ≡ []
Takes old (Some token) new = (old.0 ≡ token.now ∷ new.0) × (new.1 ≡ old.1)

-- what is out of its range is noted
abbrev pub Notes : {V : Type 0} → Bool → Result V LineFault → Option V → Bool → Type 0
Notes old (Ok v) result new = (result ≡ Some v) × (new ≡ old)
Notes old (Err Syntax) result new = result ≡ None
Notes old (Err Range) None new = ⊥
Notes old (Err Range) (Some other) new = new ≡ true

-- if nothing else follows: Syntax before Range
abbrev pub verdict : {V : Type 0} → Option V → State → Result V LineFault
verdict None new = Err Syntax
verdict (Some v) (token ∷ tokens, out) = Err Syntax
verdict (Some v) ([], true) = Err Range
verdict (Some v) ([], false) = Ok v

-- an instruction of the mnemonic
abbrev pub Answers : Mnemonic → State → Option LentStatement → State → Type 0
Answers m old result new = old.1 ≡ false → Judges m old.0 (verdict result new)
