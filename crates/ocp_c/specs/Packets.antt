-- The octets of packets in a buffer of C's.
use Rattle.std.specs.Prelude.{ℕ, List, ◌++◌, length, drop}

-- octets from the front of a buffer on; what follows them stays
abbrev pub buffer_after : List ℕ → List ℕ → List ℕ
buffer_after octets buffer = octets ++ drop (length octets) buffer
