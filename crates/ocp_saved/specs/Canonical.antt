-- Octets are those of the number that they are read as.
use Rattle.std.specs.Prelude.{◌≡◌, ℕ, ◌<◌, ◌^◌, List, ◌++◌, Ok}
use Rattle.std.specs.List.{AllByRecursion}
use Rattle.byteorder.specs.Endian.{big_bytes}
use Rattle.ocp_saved.specs.Format.{words_octets}
use Rattle.ocp_saved.specs.Reading.{number_at, words_at}

-- a number of 8 bits
abbrev pub IsOctet : ℕ → Type 0
IsOctet n = n < 2 ^ 8

-- the law: no other octets are read as this number
abbrev pub NumbersAreTheirOctets : Type 0
NumbersAreTheirOctets =
    (n x : ℕ) (octets rest : List ℕ) → AllByRecursion IsOctet octets →
    number_at n octets ≡ Ok (x, rest) → octets ≡ big_bytes n x ++ rest

-- the same for words of 64 bits
abbrev pub WordsAreTheirOctets : Type 0
WordsAreTheirOctets =
    (n : ℕ) (words octets rest : List ℕ) → AllByRecursion IsOctet octets →
    words_at n octets ≡ Ok (words, rest) → octets ≡ words_octets words ++ rest
