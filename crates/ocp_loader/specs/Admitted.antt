-- Which images may be run, in words of their lines (slots of 8 octets: RFC 9669, section 3;
-- calls: 4.3.1).
use Rattle.std.specs.Prelude.{◌≡◌, ℕ, ◌/◌, ◌%◌, ◌≤◌, true, List, length}
use Rattle.std.specs.List.{All}
use Rattle.ocp_profile.specs.declared.profile.Profile.{Profile}
use Rattle.bpf_types.specs.declared.line.Line.{Line}
use Rattle.bpf_types.specs.Line.{WritesFramePointer}
use Rattle.bpf_decode.specs.Images.{IsImageOf}
use Rattle.ocp_loader.specs.Image.{max_slots, calls_well, never_falls_through}
use Rattle.ocp_loader.specs.Places.{IsLast, AllHaveValidTargets}

-- a line that may be in an image under the profile, wherever it leads
abbrev pub IsLawful : Profile → Line → Type 0
IsLawful profile l = ¬ WritesFramePointer l × (calls_well profile l ≡ true)

-- the octets are 1 to 2,048 whole slots
pub record HasSlots (image : List ℕ) : Type 0 where
  pub whole : length image % 8 ≡ 0
  pub some : 1 ≤ length image / 8
  pub few : length image / 8 ≤ max_slots

-- nothing falls through the last line, which is EXIT or JA of either class
pub record EndsWell (lines : List Line) : Type 0 where
  pub slot : ℕ
  pub line : Line
  pub last : IsLast lines slot line
  pub leaves : never_falls_through line ≡ true

-- the image may be run under the profile, and these are its lines
pub record IsAdmittedAs (profile : Profile) (image : List ℕ) (lines : List Line) : Type 0 where
  pub slots : HasSlots image
  pub whole : IsImageOf image lines
  pub lawful : All (IsLawful profile) lines
  pub aimed : AllHaveValidTargets lines
  pub ends : EndsWell lines

-- the image may be run under the profile
pub record IsAdmitted (profile : Profile) (image : List ℕ) : Type 0 where
  pub lines : List Line
  pub admitted : IsAdmittedAs profile image lines

-- the image may be run under some profile
abbrev pub MayBeRun : List ℕ → Type 0
MayBeRun image = (profile : Profile) × IsAdmitted profile image
