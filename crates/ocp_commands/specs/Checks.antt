-- What `check` writes for its input.
use Rattle.std.specs.Prelude.{◌≡◌, ◌≤◌, ◌<◌, ◌⊎◌, ℕ, nat_le, Bool, true, false, if◌then◌else◌, List, ◌++◌, length, None, Err, codes}
use Rattle.std.specs.Fmt.{decimal}
use Rattle.ocp_profile.specs.declared.profile.Profile.{Profile}
use Rattle.ocp_loader.specs.Admitted.{IsAdmitted}
use Rattle.ocp_loader.specs.FaultNumbers.{number_of, slot_of}
use Rattle.ocp_loader.specs.LoadResult.{load_result}
use Rattle.ocp_check.specs.Never.{NeverFaults, AsksWell}
use Rattle.ocp_check.specs.Rounds.{IsWithin}
use Rattle.ocp_commands.specs.declared.checking.CheckFault.{CheckFault}
use Rattle.ocp_commands.specs.declared.checking.CheckFault.TheVariants as fault
use Rattle.ocp_commands.specs.Listings.{HasImage, image_in}
use Rattle.ocp_ports.specs.Printing.{error_line}
use Rattle.ocp_ports.specs.Reading.{max_input, IsShort}

-- ---- faults

-- the line of a fault
abbrev pub check_fault_line : CheckFault → List ℕ
check_fault_line fault.TooLong = error_line 0 (codes "TooLong")
check_fault_line fault.Hex = error_line 0 (codes "Hex")
check_fault_line (fault.Load why) =
    error_line (slot_of why) (codes "Load " ++ decimal (number_of why))

-- each fault, and none before it
abbrev pub HasCheckFault : Profile → List ℕ → CheckFault → Type 0
HasCheckFault profile input fault.TooLong = max_input < length input
HasCheckFault profile input fault.Hex = (IsShort input) × (image_in input ≡ None)
HasCheckFault profile input (fault.Load why) =
    (image : List ℕ) × HasImage input image × (load_result profile image ≡ Err why)

-- ---- the output

-- the line of fault 4, if this many words of pool suffice
abbrev pub words_line : ℕ → List ℕ
words_line words =
    if nat_le words 1 then codes "fault 4        never\n"
    else codes "fault 4        never, with " ++ decimal words ++ codes " words of pool or more\n"

-- the line of a round of which a bound is shown
abbrev pub round_line : ℕ → List ℕ
round_line most =
    codes "round          at most " ++ decimal most
    ++ codes " instructions from a start or a step end to the next step end or the exit\n"

-- the lines of an image of which all is shown
abbrev pub verdict : ℕ → ℕ → List ℕ
verdict words most = codes "faults 1 2 3   never\n" ++ words_line words ++ round_line most

-- no run of the image meets faults 1 to 3, nor fault 4 with this many words of pool or more, nor
-- does more than this many instructions up to the next end of a step or of the procedure
pub record IsShown (image : List ℕ) (words most : ℕ) : Type 0 where
  pub faults : NeverFaults image
  pub asks : AsksWell image words
  pub round : IsWithin image most

-- what `check` writes for an input, with this many words of pool, and whether all is shown of its
-- image: else it is the line of the first fault, or the image may be run and not all is shown
unfoldable pub Checks : Profile → ℕ → List ℕ → List ℕ → Bool → Type 0
Checks profile pool input output true =
    (image : List ℕ) × HasImage input image × IsAdmitted profile image × (words most : ℕ)
    × (words ≤ pool) × IsShown image words most × (output ≡ verdict words most)
Checks profile pool input output false =
    ((why : CheckFault) × HasCheckFault profile input why × (output ≡ check_fault_line why))
    ⊎ ((image : List ℕ) × HasImage input image × IsAdmitted profile image)
