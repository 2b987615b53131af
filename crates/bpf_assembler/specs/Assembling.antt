-- What the assembler answers.
use Rattle.std.specs.Prelude.{ℕ, List}
use Rattle.ocp_profile.specs.declared.profile.Profile.{Profile}
use Rattle.bpf_types.specs.declared.line.Line.{Line}
use Rattle.ocp_loader.specs.Admitted.{IsAdmittedAs}
use Rattle.bpf_assembler.specs.Text.{Means}
use Rattle.bpf_assembler.specs.Faults.{IsFault}
use Rattle.bpf_assembler.specs.declared.fault.Why.{Why}
use Rattle.bpf_assembler.specs.declared.fault.AsmFault.{AsmFault}
use Rattle.bpf_assembler.specs.declared.fault.AsmFault.TheVariants.{Memory, At}

-- the text means the lines of the image, which may be run
pub record IsImageOfText (profile : Profile) (text image : List ℕ) : Type 0 where
  pub lines : List Line
  pub means : Means text lines
  pub admitted : IsAdmittedAs profile image lines

-- memory was refused, or the text has the fault
abbrev pub IsFaultOf : Profile → List ℕ → AsmFault → Type 0
IsFaultOf profile text Memory = Unit {0}
IsFaultOf profile text (At number y) = IsFault profile text number y

-- ---- a text means instructions that may be run, or has a fault

-- the text means instructions, whose image may be run
abbrev pub HasMeaning : Profile → List ℕ → Type 0
HasMeaning profile text = (image : List ℕ) × IsImageOfText profile text image

-- the text has a fault in a line
pub record HasSomeFault (profile : Profile) (text : List ℕ) : Type 0 where
  pub line : ℕ
  pub why : Why
  pub fault : IsFault profile text line why
