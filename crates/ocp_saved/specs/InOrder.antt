-- The octets of a memory in the order of their addresses, and the memory that they make.
use Rattle.std.specs.Prelude.{◌≡◌, ℕ, ◌+◌, List, length, take, drop}
use Rattle.std.specs.FinMap.{values}
use Rattle.ocp_profile.specs.declared.profile.Profile.{Profile}
use Rattle.ocp_regions.specs.declared.regions.TheConstants.{STACK_OCTETS, ARGUMENT_OCTETS}
use Rattle.ocp_regions.specs.Memory.{Octets, memory_of, work_octets}

-- the octet at the lowest address first
unfoldable pub octets_in_order : Octets → List ℕ
octets_in_order memory = values memory

-- how many octets the memory of a profile has
abbrev pub memory_length : Profile → ℕ
memory_length profile = STACK_OCTETS + ARGUMENT_OCTETS + work_octets profile

-- the memory of octets in the order of their addresses
unfoldable pub memory_with : List ℕ → Octets
memory_with octets =
    memory_of (take STACK_OCTETS octets) (take ARGUMENT_OCTETS (drop STACK_OCTETS octets))
    (drop ARGUMENT_OCTETS (drop STACK_OCTETS octets))

-- the memory is three regions, of the lengths that the profile gives them
pub record HasRegions (profile : Profile) (memory : Octets) : Type 0 where
  pub stack : List ℕ
  pub arguments : List ℕ
  pub work : List ℕ
  pub regions : memory ≡ memory_of stack arguments work
  pub stack_length : length stack ≡ STACK_OCTETS
  pub arguments_length : length arguments ≡ ARGUMENT_OCTETS
  pub work_length : length work ≡ work_octets profile
