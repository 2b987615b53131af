-- The job that words ask for.
use Rattle.std.specs.Prelude.{◌≡◌, ℕ, Option, Some, None, Ok, List, codes}
use Rattle.std.specs.Str.Parse.{ParsesUnsigned}
use Rattle.ocp_profile.specs.declared.profile.Profile.{Profile}
use Rattle.ocp_profile.specs.declared.profile.Profile.TheVariants.{One}
use Rattle.ocp_profile.specs.Numbers.{number_of}
use Rattle.clap.specs.Words.{Row, Text, one_of}
use Rattle.ocp_words.specs.declared.job.Job.{Job}
use Rattle.ocp_words.specs.declared.job.Job.TheVariants.{Assemble, Check, List as Listing, Run}
use Rattle.ocp_words.specs.declared.job.CheckSettings.{CheckSettings}
use Rattle.ocp_words.specs.declared.job.Settings.{Settings}
use Rattle.clap.specs.Values.{kind_of}
use Rattle.clap.specs.declared.error.kind.ErrorKind.TheVariants.{InvalidValue}
use Rattle.ocp_words.specs.declared.job.WordsFault.{WordsFault}
use Rattle.ocp_words.specs.declared.job.WordsFault.TheVariants.{Usage, Memory}

-- the option's text is this number, which fits into `bits` bits
abbrev pub HasNumber : ℕ → Text → List Row → ℕ → Type 0
HasNumber bits id rows n =
    (text : Text) × (one_of id rows ≡ Some text) × ParsesUnsigned {E = Unit {0}} bits 10 text (Ok n)

-- the number of the profile is in these rows
abbrev pub HasProfile : List Row → Profile → Type 0
HasProfile rows profile = HasNumber 8 (codes "profile") rows (number_of profile)

-- the settings are the numbers that are in these rows
pub record HasSettings (rows : List Row) (s : Settings) : Type 0 where
  pub profile : HasProfile rows s.profile
  pub apid : HasNumber 16 (codes "apid") rows s.apid
  pub pool_words : HasNumber 16 (codes "pool") rows s.pool_words
  pub capacity : HasNumber 32 (codes "journal") rows s.capacity

-- the settings of a check are the numbers that are in these rows
pub record HasCheckSettings (rows : List Row) (s : CheckSettings) : Type 0 where
  pub profile : HasProfile rows s.profile
  pub pool_words : HasNumber 16 (codes "pool") rows s.pool_words

-- a run with the defaults
abbrev pub HasDefaults : Job → Type 0
HasDefaults (Run s) =
    (s.profile ≡ One) × (s.apid ≡ 291) × (s.pool_words ≡ 16) × (s.capacity ≡ 100000)
HasDefaults (Assemble profile) = ⊥
HasDefaults (Check s) = ⊥
HasDefaults Listing = ⊥

-- the job of a subcommand and what was found for its options
abbrev pub IsJob : Option (Text × List Row) → Job → Type 0
IsJob None job = HasDefaults job
IsJob (Some found) (Assemble profile) = (found.0 ≡ codes "asm") × HasProfile found.1 profile
IsJob (Some found) (Check s) = (found.0 ≡ codes "check") × HasCheckSettings found.1 s
IsJob (Some found) Listing = found.0 ≡ codes "list"
IsJob (Some found) (Run s) = (found.0 ≡ codes "run") × HasSettings found.1 s

-- a mistake in the words, or out of memory
abbrev pub IsMistake : WordsFault → Type 0
IsMistake (Usage error) = kind_of error ≡ InvalidValue
IsMistake Memory = Unit {0}
