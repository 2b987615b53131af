-- What a read takes and what a write puts.
use Rattle.std.specs.Prelude.{◌≡◌, ◌<◌, ℕ, ◌+◌, Bool, if◌then◌else◌, List, Option, length, take, MatchOption}
use Rattle.std.specs.Io.KnownBytes.{Consumes, Appends, Keeps, IsAtEnd}

-- the read gave the next octets, none only at the end; one that failed took nothing
abbrev pub Takes : Option (List ℕ) → Option (List ℕ) → Option ℕ → List ℕ → Type 0
Takes old new r buffer =
    MatchOption r (Keeps old new)
    (λ count. Consumes old new (take count buffer) × (count ≡ 0 → 0 < length buffer → IsAtEnd new))

-- the write put a prefix; one that failed put nothing
abbrev pub Puts : Option (List ℕ) → Option (List ℕ) → Option ℕ → List ℕ → Type 0
Puts old new r octets = MatchOption r (Keeps old new) (λ count. Appends old new (take count octets))

-- the count of failed calls after one that went well, or failed
abbrev pub failures : Bool → ℕ → ℕ
failures well old = if well then old else old + 1
