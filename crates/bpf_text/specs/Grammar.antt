-- How the operands of an instruction are written, one after another.
use Rattle.std.specs.Prelude.{◌≡◌, ◌∷◌, ℕ, ℤ, pos, List, codes, ◌⊎◌}
use Rattle.bpf_text.specs.Fields.{IsRegister, IsDistance}

-- how a value is written before other tokens
abbrev pub Form : Type 0 → Type 1
Form W = List (List ℕ) → W → List (List ℕ) → Type 0

-- as one token
abbrev pub Token : {W : Type 0} → (List ℕ → W → Type 0) → Form W
Token Is tokens w rest = (token : List ℕ) × (tokens ≡ token ∷ rest) × Is token w

-- after a word or a mark
abbrev pub After : List ℕ → {W : Type 0} → Form W → Form W
After word F tokens w rest = (after : List (List ℕ)) × (tokens ≡ word ∷ after) × F after w rest

-- one after the other
abbrev pub Then : {V W : Type 0} → Form V → Form W → Form (V × W)
Then F G tokens w rest = (middle : List (List ℕ)) × F tokens w.0 middle × G middle w.1 rest

-- with a comma between them
infixr 60 ◌⸴◌
abbrev pub ◌⸴◌ : {V W : Type 0} → Form V → Form W → Form (V × W)
F ⸴ G = Then F (After (codes ",") G)

-- an offset, which is zero if it is left out, and the closing bracket
abbrev pub Bracket : Form ℤ
Bracket tokens z rest =
    ((tokens ≡ codes "]" ∷ rest) × (z ≡ pos 0))
    ⊎ ((token : List ℕ) × (tokens ≡ token ∷ codes "]" ∷ rest) × IsDistance token z)

-- an operand in memory, for example [r2+8]
abbrev pub Memory : Form (ℕ × ℤ)
Memory = After (codes "[") (Then (Token IsRegister) Bracket)
