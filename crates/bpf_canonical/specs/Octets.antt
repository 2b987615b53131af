-- The octets of listings.
use Rattle.std.specs.Prelude.{ℕ, Bool, ◌&&◌, ◌||◌, nat_le, ◌==◌}

-- the octets of canonical texts: digits, lower-case letters, the space, and + , - [ ]
abbrev pub is_text_octet : ℕ → Bool
is_text_octet o =
    (nat_le 48 o && nat_le o 57) || (nat_le 97 o && nat_le o 122) || (o == 32) || (o == 43)
    || (o == 44) || (o == 45) || (o == 91) || (o == 93)
