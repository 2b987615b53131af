-- Fields of service data: numbers of whole octets, the highest octet first.
use Rattle.std.specs.Prelude.{ℕ, zero, suc, List, [], ◌∷◌, drop}
use Rattle.byteorder.specs.Endian.{big_number}

-- the first n numbers of w octets each, one after the other
abbrev pub numbers : ℕ → ℕ → List ℕ → List ℕ
numbers w zero octets = []
numbers w (suc n) octets = big_number w octets ∷ numbers w n (drop w octets)
