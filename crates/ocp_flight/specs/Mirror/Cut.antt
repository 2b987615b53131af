-- Pieces by where they end. Positions are counts of octets modulo 2^32.
use Rattle.std.specs.Prelude.{◌≡◌, ◌≤◌, ◌<◌, ℕ, ◌+◌, ◌-◌, ◌%◌, ◌^◌, List, [], ◌∷◌, length, get_or}
use Rattle.ocp_flight.specs.Pieces.{TapeContents, total, pieces}
use Rattle.ocp_flight.specs.declared.tape.Tape.TheInside.{Inside}

-- the number of octets from one position to another
abbrev pub distance : ℕ → ℕ → ℕ
distance from to = (to + (2 ^ 32 - from % 2 ^ 32)) % 2 ^ 32

-- the lengths of the pieces that end at these positions, the first of which begins at this one
abbrev pub lengths_of : ℕ → List ℕ → List ℕ
lengths_of start [] = []
lengths_of start (end ∷ ends) = distance start end ∷ lengths_of end ends

module _ {A : Type 0} where
  abbrev pub contents_of : Inside A → TapeContents
  contents_of t = record {
    pieces = pieces (lengths_of t.start t.ends.items) t.octets.items;
    most = t.ends.capacity;
    room = t.octets.capacity;
  }

  pub record IsCut (t : Inside A) : Type 0 where
    pub last : t.end ≡ get_or (t.start ∷ t.ends.items) (length t.ends.items) 0
    pub whole : total (lengths_of t.start t.ends.items) ≡ length t.octets.items
    pub within : length t.octets.items ≤ t.octets.capacity
    pub few : length t.ends.items ≤ t.ends.capacity
    pub limit : t.octets.capacity < 2 ^ 32
