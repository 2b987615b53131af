-- What a text means or has as its fault is answered.
use Rattle.std.proofs.Common.{◌≡◌, ◌⊎◌, inl, inr, ℕ, List, Result, Ok, Err, refl, sym, ap, ◌∙◌, subst}
use Rattle.std.specs.Prelude.{IfOk, IfErr}
use Rattle.ocp_profile.specs.declared.profile.Profile.{Profile}
use Rattle.bpf_types.specs.declared.line.Line.{Line}
use Rattle.bpf_decode.specs.Images.{image_of}
use Rattle.ocp_loader.specs.Admitted.{IsAdmitted, IsAdmittedAs}
use Rattle.bpf_assembler.specs.Text.{Means}
use Rattle.bpf_assembler.specs.Faults.{IsFault}
use Rattle.bpf_assembler.specs.Assembling.{IsImageOfText, IsFaultOf}
use Rattle.bpf_assembler.specs.declared.fault.Why.{Why}
use Rattle.bpf_assembler.specs.declared.fault.AsmFault.{AsmFault}
use Rattle.bpf_assembler.specs.declared.fault.AsmFault.TheVariants.{Memory, At}

-- what the laws state about meanings and faults
abbrev pub AreMeantOnce : Type 0
AreMeantOnce = (text : List ℕ) (a b : List Line) → Means text a → Means text b → a ≡ b

abbrev pub AreFaultyOnce : Profile → Type 0
AreFaultyOnce profile = (text : List ℕ) (m n : ℕ) (y z : Why) → IsFault profile text m y → IsFault profile text n z → (m ≡ n) × (y ≡ z)

abbrev pub AreSound : Profile → Type 0
AreSound profile = (text : List ℕ) (lines : List Line) (number : ℕ) (y : Why) → Means text lines → IsAdmitted profile (image_of lines) → ¬ IsFault profile text number y

one_image : (profile : Profile) → AreMeantOnce → (text a b : List ℕ) → IsImageOfText profile text a → IsImageOfText profile text b → a ≡ b
one_image profile meaning text a b h k = h.admitted.whole.octets ∙ ap image_of (meaning text h.lines k.lines h.means k.means) ∙ sym k.admitted.whole.octets

pub image_or_fault : (profile : Profile) → AreSound profile → (text image : List ℕ) (number : ℕ) (y : Why) → IsImageOfText profile text image → IsFault profile text number y → ⊥
image_or_fault profile sound text image number y h k =
    sound text h.lines number y h.means (subst (IsAdmitted profile) h.admitted.whole.octets (record { lines = h.lines; admitted = h.admitted })) k

-- the image of a text is that of the instructions that the text means
pub lines_meant : (profile : Profile) → AreMeantOnce → (text : List ℕ) (r : Result (List ℕ) AsmFault) → IfOk r (IsImageOfText profile text) → (lines : List Line) → Means text lines → IfOk r (λ (image : List ℕ). IsAdmittedAs profile image lines)
lines_meant profile meaning text (Ok v) m lines h = subst (IsAdmittedAs profile v) (meaning text m.lines lines m.means h) m.admitted
lines_meant profile meaning text (Err f) m lines h = tt

-- if a text has an image, that is the answer
pub only_image : (profile : Profile) → AreMeantOnce → AreSound profile → (text : List ℕ) (r : Result (List ℕ) AsmFault) → IfOk r (IsImageOfText profile text) → IfErr r (IsFaultOf profile text) → (image : List ℕ) → IsImageOfText profile text image → (r ≡ Err Memory) ⊎ (r ≡ Ok image)
only_image profile meaning sound text (Ok v) m f image h = inr (ap Ok (one_image profile meaning text v image m h))
only_image profile meaning sound text (Err Memory) m f image h = inl refl
only_image profile meaning sound text (Err (At number y)) m f image h = absurd (image_or_fault profile sound text image number y h f)

-- and memory alone is refused
pub only_memory : (profile : Profile) → AreSound profile → (text : List ℕ) (f : AsmFault) → IsFaultOf profile text f → (image : List ℕ) → IsImageOfText profile text image → f ≡ Memory
only_memory profile sound text Memory k image h = refl
only_memory profile sound text (At number y) k image h = absurd (image_or_fault profile sound text image number y h k)

-- if it has a fault, that is
pub only_fault : (profile : Profile) → AreFaultyOnce profile → AreSound profile → (text : List ℕ) (r : Result (List ℕ) AsmFault) → IfOk r (IsImageOfText profile text) → IfErr r (IsFaultOf profile text) → (line : ℕ) (why : Why) → IsFault profile text line why → (r ≡ Err Memory) ⊎ (r ≡ Err (At line why))
only_fault profile fault sound text (Ok v) m f line why h = absurd (image_or_fault profile sound text v line why m h)
only_fault profile fault sound text (Err Memory) m f line why h = inl refl
only_fault profile fault sound text (Err (At number y)) m f line why h = let p = fault text number line y why f h in inr (λ i. Err (At (p.0 i) (p.1 i)))
