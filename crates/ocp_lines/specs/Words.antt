-- The words of a line.
use Rattle.std.specs.Prelude.{ℕ, ◌+◌, ◌*◌, ◌-◌, ◌==◌, ◌&&◌, nat_le, nat_eq, Bool, true, false, not, if◌then◌else◌, List, [], ◌∷◌, length, drop, Option, Some, None, filter, fold, codes}
use Rattle.std.specs.List.{list_all, starts_with}
use Rattle.std.specs.Result.{result_ok}
use Rattle.hex.specs.Hex.{decode_of, hex_digit_value}
use Rattle.ocp_lines.specs.declared.words.TheConstants.{MAX_ADDRESS_DIGITS}

-- octets of a line with no space among them
abbrev pub Word : Type 0
Word = List ℕ

abbrev pub is_empty : Word → Bool
is_empty [] = true
is_empty (octet ∷ octets) = false

-- an octet before the first piece
abbrev pub onto : ℕ → List Word → List Word
onto octet [] = (octet ∷ []) ∷ []
onto octet (piece ∷ pieces) = (octet ∷ piece) ∷ pieces

-- a text cut at each space
abbrev pub pieces : List ℕ → List Word
pieces [] = [] ∷ []
pieces (octet ∷ octets) = if octet == 32 then [] ∷ pieces octets else onto octet (pieces octets)

-- whether none of the octets is the given one
abbrev pub is_free_of : ℕ → List ℕ → Bool
is_free_of end octets = list_all (λ octet. not (octet == end)) octets

-- the words of a text, which are separated by spaces
abbrev pub words_of : List ℕ → List Word
words_of text = filter (λ piece. not (is_empty piece)) (pieces text)

-- ---- what a word spells

abbrev pub is_digit : ℕ → Bool
is_digit octet = nat_le 48 octet && nat_le octet 57

-- the number that decimal digits spell
abbrev pub value_of : List ℕ → ℕ
value_of digits = fold (λ value digit. value * 10 + (digit - 48)) 0 digits

-- decimal digits, at least one: a number up to the most
abbrev pub number_up_to : ℕ → Word → Option ℕ
number_up_to most word =
    if not (is_empty word) && list_all is_digit word && nat_le (value_of word) most
    then Some (value_of word) else None

abbrev pub at_most : ℕ → Option (List ℕ) → Option (List ℕ)
at_most most None = None
at_most most (Some octets) = if nat_le (length octets) most then Some octets else None

-- hexadecimal digits of both cases, an even number of them: at most `most` octets
abbrev pub octets_up_to : ℕ → Word → Option (List ℕ)
octets_up_to most word = at_most most (result_ok (decode_of word))

-- a number followed by one more hexadecimal digit
abbrev pub with_digit : Option ℕ → Option ℕ → Option ℕ
with_digit None digit = None
with_digit (Some value) None = None
with_digit (Some value) (Some digit) = Some (value * 16 + digit)

-- the number that hexadecimal digits of both cases spell, or none if an octet is no such digit
abbrev pub hexadecimal : List ℕ → Option ℕ
hexadecimal digits = fold (λ value digit. with_digit value (hex_digit_value digit)) (Some 0) digits

-- the number that 1 to 16 hexadecimal digits spell
abbrev pub sixteen_digits : List ℕ → Option ℕ
sixteen_digits digits =
    if nat_le 1 (length digits) && nat_le (length digits) MAX_ADDRESS_DIGITS
    then hexadecimal digits else None

-- an address: `0x` and 1 to 16 hexadecimal digits of both cases
abbrev pub address_in : Word → Option ℕ
address_in word =
    if starts_with nat_eq word (codes "0x") then sixteen_digits (drop 2 word) else None
