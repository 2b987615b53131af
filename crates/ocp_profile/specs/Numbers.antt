-- The numbers of the profiles.
use Rattle.std.specs.Prelude.{ℕ}
use Rattle.ocp_profile.specs.declared.profile.Profile.{Profile}
use Rattle.ocp_profile.specs.declared.profile.Profile.TheVariants.{One, Two}

-- the number of a profile
abbrev pub number_of : Profile → ℕ
number_of One = 1
number_of Two = 2
