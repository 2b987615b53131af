-- A request as a function of its data, field by field, with the first fault. `IsRequestData` is
-- what it means: `read_request` answers by both.
use Rattle.std.specs.Prelude.{ℕ, Bool, ◌+◌, ◌*◌, ◌==◌, ◌&&◌, nat_le, if◌then◌else◌, List, length, drop, slice_index, Result, Ok, Err}
use Rattle.byteorder.specs.Endian.{big_number}
use Rattle.obcp_messages.specs.Fields.{numbers}
use Rattle.obcp_messages.specs.declared.payload.TheConstants.{MAX_CODE_LENGTH, MAX_ARGUMENTS_LENGTH, MAX_WORDS}
use Rattle.obcp_messages.specs.declared.request.Request.{Request}
use Rattle.obcp_messages.specs.declared.request.Request.TheVariants.{Load, Unload, Activate, Stop, Suspend, Resume, Communicate, Status, Abort}
use Rattle.obcp_types.specs.declared.failure.RequestFault.{RequestFault}
use Rattle.obcp_types.specs.declared.failure.RequestFault.TheVariants.{Service, Subtype, Layout}
use Rattle.ocp_profile.specs.declared.profile.Profile.{Profile}
use Rattle.ocp_profile.specs.declared.profile.Profile.TheVariants.{One, Two}

-- an identifier alone
abbrev pub with_id : (ℕ → Request) → List ℕ → Result Request RequestFault
with_id make octets = if length octets == 2 then Ok (make (big_number 2 octets)) else Err Layout

-- an identifier and a step
abbrev pub with_step : (ℕ → ℕ → Request) → List ℕ → Result Request RequestFault
with_step make octets =
    if length octets == 4
    then Ok (make (big_number 2 octets) (big_number 2 (drop 2 octets))) else Err Layout

-- after the first n octets comes a number of two octets, followed by that number of octets
abbrev pub is_counted : ℕ → List ℕ → Bool
is_counted n octets =
    nat_le (n + 2) (length octets) && (length octets == n + 2 + big_number 2 (drop n octets))

-- an identifier, a number up to the most, and that number of octets
abbrev pub with_octets : ℕ → (ℕ → List ℕ → Request) → List ℕ → Result Request RequestFault
with_octets most make octets =
    if is_counted 2 octets && nat_le (length octets) (4 + most)
    then Ok (make (big_number 2 octets) (drop 4 octets)) else Err Layout

-- an identifier, a number from 1 to 8, and that number of words
abbrev pub with_words : List ℕ → Result Request RequestFault
with_words octets =
    let count = slice_index octets 2 in
    if nat_le 3 (length octets) && (length octets == 3 + 8 * count)
    && nat_le 1 count && nat_le count MAX_WORDS
    then Ok (Communicate (big_number 2 octets) (numbers 8 count (drop 3 octets))) else Err Layout

-- an identifier, a budget, a number up to 256, and that number of octets
abbrev pub with_budget : List ℕ → Result Request RequestFault
with_budget octets =
    if is_counted 6 octets && nat_le (length octets) (8 + MAX_ARGUMENTS_LENGTH)
    then Ok (Activate (big_number 2 octets) (big_number 4 (drop 2 octets)) (drop 8 octets))
    else Err Layout

-- an activation: without a budget under profile One
abbrev pub activation_in : Profile → List ℕ → Result Request RequestFault
activation_in One octets =
    with_octets MAX_ARGUMENTS_LENGTH (λ id arguments. Activate id 0 arguments) octets
activation_in Two octets = with_budget octets

-- the request of a subtype and data
abbrev pub request_in : Profile → ℕ → List ℕ → Result Request RequestFault
request_in profile subtype octets =
    if subtype == 1 then with_octets MAX_CODE_LENGTH Load octets
    else (if subtype == 2 then with_id Unload octets
    else (if subtype == 3 then activation_in profile octets
    else (if subtype == 4 then with_step Stop octets
    else (if subtype == 5 then with_step Suspend octets
    else (if subtype == 6 then with_id Resume octets
    else (if subtype == 7 then with_words octets
    else (if subtype == 8 then (if length octets == 0 then Ok Status else Err Layout)
    else (if subtype == 12 then with_id Abort octets
    else Err Subtype))))))))

-- the request of a telecommand's service, subtype and data
abbrev pub request_of : Profile → ℕ → ℕ → List ℕ → Result Request RequestFault
request_of profile service subtype octets =
    if service == 18 then request_in profile subtype octets else Err Service
