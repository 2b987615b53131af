-- Requests of service 18 (ECSS-E-ST-70-41C, 6.18 and 8.18; subtype numbers and field widths are
-- this product's own profile).
use Rattle.std.specs.Prelude.{◌≡◌, ◌≢◌, ◌≤◌, ◌<◌, ◌^◌, ℕ, List, [], ◌++◌, length, All}
use Rattle.std.specs.List.{flat_map}
use Rattle.byteorder.specs.Endian.{big_bytes}
use Rattle.obcp_messages.specs.declared.payload.TheConstants.{MAX_CODE_LENGTH, MAX_ARGUMENTS_LENGTH, MAX_WORDS}
use Rattle.obcp_messages.specs.declared.request.Request.{Request}
use Rattle.obcp_messages.specs.declared.request.Request.TheVariants.{Load, Unload, Activate, Stop, Suspend, Resume, Communicate, Status, Abort}
use Rattle.obcp_types.specs.declared.failure.RequestFault.{RequestFault}
use Rattle.obcp_types.specs.declared.failure.RequestFault.TheVariants.{Service, Subtype, Layout}
use Rattle.ocp_profile.specs.declared.profile.Profile.{Profile}
use Rattle.ocp_profile.specs.declared.profile.Profile.TheVariants.{One, Two}

-- the message subtype of a request
abbrev pub subtype_of : Request → ℕ
subtype_of (Load id code) = 1
subtype_of (Unload id) = 2
subtype_of (Activate id budget arguments) = 3
subtype_of (Stop id step) = 4
subtype_of (Suspend id step) = 5
subtype_of (Resume id) = 6
subtype_of (Communicate id words) = 7
subtype_of Status = 8
subtype_of (Abort id) = 12

-- the budget's field in an activation: of four octets under profile Two, and none under One
abbrev pub budget_data : Profile → ℕ → List ℕ
budget_data One budget = []
budget_data Two budget = big_bytes 4 budget

-- the service data of a request: its fields one after the other
abbrev pub request_data : Profile → Request → List ℕ
request_data profile (Load id code) = big_bytes 2 id ++ big_bytes 2 (length code) ++ code
request_data profile (Unload id) = big_bytes 2 id
request_data profile (Activate id budget arguments) =
    big_bytes 2 id ++ budget_data profile budget ++ big_bytes 2 (length arguments) ++ arguments
request_data profile (Stop id step) = big_bytes 2 id ++ big_bytes 2 step
request_data profile (Suspend id step) = big_bytes 2 id ++ big_bytes 2 step
request_data profile (Resume id) = big_bytes 2 id
request_data profile (Communicate id words) =
    big_bytes 2 id ++ big_bytes 1 (length words) ++ flat_map (big_bytes 8) words
request_data profile Status = []
request_data profile (Abort id) = big_bytes 2 id

-- the budgets that an activation can carry: under profile One it is 0, which is none
abbrev pub IsBudget : Profile → ℕ → Type 0
IsBudget One budget = budget ≡ 0
IsBudget Two budget = budget < 2 ^ 32

-- each number of a request is in the range of its field
abbrev pub IsRequest : Profile → Request → Type 0
IsRequest profile (Load id code) = (id < 2 ^ 16) × (length code ≤ MAX_CODE_LENGTH)
IsRequest profile (Unload id) = id < 2 ^ 16
IsRequest profile (Activate id budget arguments) =
    (id < 2 ^ 16) × IsBudget profile budget × (length arguments ≤ MAX_ARGUMENTS_LENGTH)
IsRequest profile (Stop id step) = (id < 2 ^ 16) × (step < 2 ^ 16)
IsRequest profile (Suspend id step) = (id < 2 ^ 16) × (step < 2 ^ 16)
IsRequest profile (Resume id) = id < 2 ^ 16
IsRequest profile (Communicate id words) =
    (id < 2 ^ 16) × (1 ≤ length words) × (length words ≤ MAX_WORDS)
    × All (λ word. word < 2 ^ 64) words
IsRequest profile Status = Unit {0}
IsRequest profile (Abort id) = id < 2 ^ 16

-- the octets are the service data of this request, in a telecommand of this service and subtype
pub record IsRequestData (profile : Profile) (service subtype : ℕ) (octets : List ℕ)
    (request : Request) : Type 0 where
  pub of_service : service ≡ 18
  pub of_subtype : subtype ≡ subtype_of request
  pub in_range : IsRequest profile request
  pub fields : octets ≡ request_data profile request

-- what is first wrong with service data that are no request
abbrev pub HasRequestFault : Profile → ℕ → ℕ → List ℕ → RequestFault → Type 0
HasRequestFault profile service subtype octets Service = service ≢ 18
HasRequestFault profile service subtype octets Subtype =
    (service ≡ 18) × ((request : Request) → subtype ≢ subtype_of request)
HasRequestFault profile service subtype octets Layout =
    (service ≡ 18) × ((request : Request) × (subtype ≡ subtype_of request))
    × ((request : Request) → IsRequestData profile service subtype octets request → ⊥)

-- under profile One a budget is 0, which is none
abbrev pub IsFittingBudget : Profile → ℕ → Type 0
IsFittingBudget One budget = budget ≡ 0
IsFittingBudget Two budget = Unit {0}

-- a request that a profile can carry: an activation has a fitting budget
abbrev pub HasFittingBudget : Profile → Request → Type 0
HasFittingBudget profile (Activate id budget arguments) = IsFittingBudget profile budget
HasFittingBudget profile _ = Unit {0}
