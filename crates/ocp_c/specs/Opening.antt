-- What an engine is opened with.
use Rattle.std.specs.Prelude.{◌≡◌, ℕ, ◌==◌, ◌&&◌, nat_le, if◌then◌else◌, Option, Some, None, Result, Ok, Err}
use Rattle.ocp_profile.specs.declared.profile.Profile.{Profile}
use Rattle.ocp_profile.specs.declared.profile.Profile.TheVariants.{One, Two}
use Rattle.ocp_profile.specs.declared.limits.TheConstants.{MAX_APID, MAX_POOL_WORDS, MAX_CAPACITY}
use Rattle.ocp_flight.specs.declared.store.TheConstants.{MAX_OCTETS}
use Rattle.ocp_flight.specs.Flown.{Flown, opened_flown}
use Rattle.ocp_c.specs.declared.status.Status.{Status}
use Rattle.ocp_c.specs.declared.status.Status.TheVariants as status
use Rattle.ocp_c.specs.Statuses.{number_of}

-- an engine of this profile, if the other numbers are in their ranges, or the first refusal
abbrev pub opening_of : Profile → ℕ → ℕ → ℕ → ℕ → Result Flown Status
opening_of profile apid words entries octets =
    if nat_le apid MAX_APID then
    (if nat_le 1 words && nat_le words MAX_POOL_WORDS then
    (if nat_le 1 entries && nat_le entries MAX_CAPACITY then
    (if nat_le 1 octets && nat_le octets MAX_OCTETS
    then Ok (opened_flown profile apid words entries octets)
    else Err status.BadOctets)
    else Err status.BadCapacity)
    else Err status.BadPoolWords)
    else Err status.BadApid

-- what an engine begins with, or the first refusal
unfoldable pub opening : ℕ → ℕ → ℕ → ℕ → ℕ → Result Flown Status
opening profile apid words entries octets =
    if profile == 1 then opening_of One apid words entries octets
    else (if profile == 2 then opening_of Two apid words entries octets else Err status.BadProfile)

-- the engine is open and begins with this, or there was no memory
abbrev pub IsOpened : Flown → ℕ → Option Flown → Type 0
IsOpened flown number None = number ≡ number_of status.Memory
IsOpened flown number (Some held) = (number ≡ number_of status.Done) × (held ≡ flown)
