-- What `list` writes for its input.
use Rattle.std.specs.Prelude.{◌≡◌, ◌≢◌, ◌<◌, ℕ, ◌%◌, ◌==◌, ◌||◌, Bool, true, false, if◌then◌else◌, List, [], ◌∷◌, ◌++◌, length, Option, Some, None, codes}
use Rattle.std.specs.Fmt.{decimal}
use Rattle.std.specs.Result.{result_ok}
use Rattle.hex.specs.Hex.{decode_of}
use Rattle.bpf_decode.specs.Faults.{decode_number}
use Rattle.bpf_decode.specs.Images.{HasFaultAt}
use Rattle.bpf_listing.specs.Listing.{IsListed}
use Rattle.ocp_commands.specs.declared.listing.ListFault.{ListFault}
use Rattle.ocp_commands.specs.declared.listing.ListFault.TheVariants as fault
use Rattle.ocp_ports.specs.Printing.{error_line}
use Rattle.ocp_ports.specs.Reading.{max_input, IsShort}

-- a space or a newline
abbrev pub is_blank : ℕ → Bool
is_blank octet = (octet == 32) || (octet == 10)

-- an octet before a text that ends in no blank
abbrev pub onto_digits : ℕ → List ℕ → List ℕ
onto_digits octet [] = if is_blank octet then [] else octet ∷ []
onto_digits octet (next ∷ octets) = octet ∷ next ∷ octets

-- a text without the spaces and newlines at its end
abbrev pub digits_of : List ℕ → List ℕ
digits_of [] = []
digits_of (octet ∷ octets) = onto_digits octet (digits_of octets)

-- the image that a text spells: pairs of hexadecimal digits of both cases, then spaces and
-- newlines
abbrev pub image_in : List ℕ → Option (List ℕ)
image_in text = result_ok (decode_of (digits_of text))

-- ---- faults

-- the line of a fault
abbrev pub list_fault_line : ListFault → List ℕ
list_fault_line fault.TooLong = error_line 0 (codes "TooLong")
list_fault_line fault.Hex = error_line 0 (codes "Hex")
list_fault_line fault.Ragged = error_line 0 (codes "Ragged")
list_fault_line (fault.Decode why slot) =
    error_line slot (codes "Decode " ++ decimal (decode_number why))

-- the image of an input that is not too long
pub record HasImage (input image : List ℕ) : Type 0 where
  pub few : IsShort input
  pub digits : image_in input ≡ Some image

-- each fault, and none before it
abbrev pub HasListFault : List ℕ → ListFault → Type 0
HasListFault input fault.TooLong = max_input < length input
HasListFault input fault.Hex = (IsShort input) × (image_in input ≡ None)
HasListFault input fault.Ragged = (image : List ℕ) × HasImage input image × (length image % 8 ≢ 0)
HasListFault input (fault.Decode why slot) =
    (image : List ℕ) × HasImage input image × (length image % 8 ≡ 0) × HasFaultAt image slot why

-- ---- the output

-- what `list` writes for an input, and whether it is a listing: else it is the line of the first
-- fault
abbrev pub Lists : List ℕ → List ℕ → Bool → Type 0
Lists input output true = (image : List ℕ) × HasImage input image × IsListed image [] output
Lists input output false =
    (why : ListFault) × HasListFault input why × (output ≡ list_fault_line why)
