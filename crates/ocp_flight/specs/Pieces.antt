-- Pieces of octets, one after the other.
use Rattle.std.specs.Prelude.{ℕ, ◌+◌, nat_lt, nat_le, Bool, if◌then◌else◌, false, List, [], ◌∷◌, take, drop, length}

-- the sum of lengths
abbrev pub total : List ℕ → ℕ
total [] = 0
total (n ∷ ns) = n + total ns

-- octets cut into pieces of these lengths
abbrev pub pieces : List ℕ → List ℕ → List (List ℕ)
pieces [] octets = []
pieces (n ∷ ns) octets = take n octets ∷ pieces ns (drop n octets)

-- the number of octets of all pieces
abbrev pub extent : List (List ℕ) → ℕ
extent [] = 0
extent (p ∷ ps) = length p + extent ps

-- the pieces, the largest number of them, and the largest number of octets that they have together
pub record TapeContents : Type 0 where
  pub pieces : List (List ℕ)
  pub most : ℕ
  pub room : ℕ

-- whether there is room for one more piece of this length
abbrev pub has_room : TapeContents → ℕ → Bool
has_room t n =
    if nat_lt (length t.pieces) t.most then nat_le (extent t.pieces + n) t.room else false
