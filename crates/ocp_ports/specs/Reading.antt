-- How much of an input is read.
use Rattle.std.specs.Prelude.{◌≡◌, ◌≤◌, ℕ, List, ◌++◌, length, Option, Some, IfSome}
use Rattle.std.specs.Io.KnownBytes.{Keeps}

-- the most octets of an input that is read whole
abbrev pub max_input : ℕ
max_input = 1048576

-- the most octets that one read takes
abbrev pub max_chunk : ℕ
max_chunk = 4096

-- What was read of an input before the last read is within a limit. That read gave the octets
-- `last`, and `rest` is left.
pub record ReadsWhile (IsWithin : List ℕ → Type 0) (input : List ℕ)
    (left : Option (List ℕ)) : Type 0 where
  pub before : List ℕ
  pub last : List ℕ
  pub rest : List ℕ
  pub parts : input ≡ before ++ last ++ rest
  pub kept : Keeps (Some rest) left
  pub within : IsWithin before
  pub few : length last ≤ max_chunk

-- what is left of an input that is read while what was read of it is within a limit
abbrev pub LeavesWhile :
    (List ℕ → Type 0) → Option (List ℕ) → Option (List ℕ) → Type 0
LeavesWhile IsWithin old new = IfSome old (λ input. ReadsWhile IsWithin input new)

-- an input that is read whole
abbrev pub IsShort : List ℕ → Type 0
IsShort input = length input ≤ max_input
