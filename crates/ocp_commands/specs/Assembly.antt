-- What `asm` writes for its input.
use Rattle.std.specs.Prelude.{◌≡◌, ◌<◌, ℕ, Bool, true, false, List, ◌++◌, length, codes, ◌⊎◌}
use Rattle.std.specs.Fmt.{decimal}
use Rattle.ocp_profile.specs.declared.profile.Profile.{Profile}
use Rattle.hex.specs.Hex.{encode_lower}
use Rattle.ocp_loader.specs.FaultNumbers.{number_of}
use Rattle.bpf_assembler.specs.declared.fault.Why.{Why}
use Rattle.bpf_assembler.specs.declared.fault.Why.TheVariants as why
use Rattle.bpf_assembler.specs.Faults.{IsFault}
use Rattle.bpf_assembler.specs.Assembling.{IsImageOfText}
use Rattle.ocp_ports.specs.Printing.{error_line}
use Rattle.ocp_ports.specs.Reading.{max_input, IsShort}

-- the image in lower-case hexadecimal digits, on one line
abbrev pub image_line : List ℕ → List ℕ
image_line image = encode_lower image ++ codes "\n"

-- what follows the line number in the line of a fault: for a load fault its number too
abbrev pub why_name : Why → List ℕ
why_name why.Syntax = codes "Syntax"
why_name why.Range = codes "Range"
why_name why.DuplicateLabel = codes "DuplicateLabel"
why_name why.UnknownLabel = codes "UnknownLabel"
why_name (why.Load fault) = codes "Load " ++ decimal (number_of fault)

-- the input is too long, and the output states it
pub record IsTooLong (input output : List ℕ) : Type 0 where
  pub many : max_input < length input
  pub text : output ≡ error_line 0 (codes "TooLong")

-- the text has a fault, and the output is its line
pub record HasFaultLine (profile : Profile) (input output : List ℕ) : Type 0 where
  pub few : IsShort input
  pub line : ℕ
  pub why : Why
  pub fault : IsFault profile input line why
  pub text : output ≡ error_line line (why_name why)

-- the text means an image that may be run, and the output is its line
pub record HasImageLine (profile : Profile) (input output : List ℕ) : Type 0 where
  pub few : IsShort input
  pub image : List ℕ
  pub meant : IsImageOfText profile input image
  pub text : output ≡ image_line image

-- what `asm` writes for an input, and whether it is an image: else it is the line of a fault
abbrev pub Assembles : Profile → List ℕ → List ℕ → Bool → Type 0
Assembles profile input output true = HasImageLine profile input output
Assembles profile input output false = IsTooLong input output ⊎ HasFaultLine profile input output
