-- The first fault of an image that may not be run, in words of its lines.
use Rattle.std.specs.Prelude.{◌≡◌, ◌≢◌, ℕ, ◌*◌, ◌/◌, ◌%◌, ◌<◌, ℤ, false, List, length, take, drop}
use Rattle.std.specs.List.{All}
use Rattle.ocp_profile.specs.declared.profile.Profile.{Profile}
use Rattle.bpf_types.specs.declared.line.Line.{Line}
use Rattle.bpf_types.specs.declared.line.Line.TheVariants as line
use Rattle.bpf_decode.specs.Decoding.{BeginsWith}
use Rattle.bpf_decode.specs.Faults.{IsFirst}
use Rattle.ocp_loader.specs.declared.fault.LoadFault.{LoadFault}
use Rattle.ocp_loader.specs.declared.fault.LoadFault.TheVariants.{EmptyCode, RaggedCode, TooLong, Decode, BadCall, BadTarget, FallsOffEnd, Memory}
use Rattle.bpf_decode.specs.Images.{IsImageOf}
use Rattle.ocp_loader.specs.Image.{max_slots, is_engine_call, never_falls_through}
use Rattle.ocp_loader.specs.Places.{IsAt, IsLast, HasValidTarget, AllHaveValidTargets}
use Rattle.ocp_loader.specs.Admitted.{IsLawful, HasSlots}

-- lines that may be in an image fill the slots before this one
pub record IsFilledUpTo (profile : Profile) (image : List ℕ) (slot : ℕ) : Type 0 where
  pub lines : List Line
  pub whole : IsImageOf (take (8 * slot) image) lines
  pub lawful : All (IsLawful profile) lines
  pub within : 8 * slot < length image

-- the octets begin with a call of a number that no engine call of the profile has
pub record CallsBadly (profile : Profile) (octets : List ℕ) : Type 0 where
  pub number : ℤ
  pub call : BeginsWith octets (line.Call number)
  pub unknown : is_engine_call profile number ≡ false

-- the lines of the image, each of which may be in one
pub record IsLawfulImage (profile : Profile) (image : List ℕ) (lines : List Line) : Type 0 where
  pub whole : IsImageOf image lines
  pub lawful : All (IsLawful profile) lines

-- the first line that jumps or calls to no line is at the slot
pub record HasFirstBadTarget (profile : Profile) (image : List ℕ) (slot : ℕ) : Type 0 where
  pub lines : List Line
  pub lawful : IsLawfulImage profile image lines
  pub line : Line
  pub stands : IsAt lines slot line
  pub bad_target : ¬ HasValidTarget lines slot line
  pub earlier : (place : ℕ) (l : Line) → place < slot → IsAt lines place l →
      HasValidTarget lines place l

-- the last line is at the slot, and is neither EXIT nor JA
pub record FallsOff (profile : Profile) (image : List ℕ) (slot : ℕ) : Type 0 where
  pub lines : List Line
  pub lawful : IsLawfulImage profile image lines
  pub aimed : AllHaveValidTargets lines
  pub line : Line
  pub last : IsLast lines slot line
  pub falls : never_falls_through line ≡ false

-- the first fault that the image has under the profile
abbrev pub IsFirstFault : Profile → List ℕ → LoadFault → Type 0
IsFirstFault profile image EmptyCode = length image ≡ 0
IsFirstFault profile image RaggedCode = length image % 8 ≢ 0
IsFirstFault profile image TooLong = (length image % 8 ≡ 0) × (max_slots < length image / 8)
IsFirstFault profile image (Decode fault slot) =
    HasSlots image × IsFilledUpTo profile image slot × IsFirst fault (drop (8 * slot) image)
IsFirstFault profile image (BadCall slot) =
    HasSlots image × IsFilledUpTo profile image slot × CallsBadly profile (drop (8 * slot) image)
IsFirstFault profile image (BadTarget slot) = HasSlots image × HasFirstBadTarget profile image slot
IsFirstFault profile image (FallsOffEnd slot) = HasSlots image × FallsOff profile image slot
IsFirstFault profile image Memory = Unit {0}
