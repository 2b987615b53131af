-- An assembly text has one image, or one fault in one line.
use Rattle.std.proofs.Common.{◌≡◌, ℕ, Bool, true, false, List, refl, sym, ap, ap₂, ◌∙◌, subst, arith, inl, inr}
use Rattle.ocp_profile.specs.declared.profile.Profile.{Profile}
use Rattle.bpf_types.specs.declared.line.Line.{Line}
use Rattle.bpf_decode.specs.Images.{image_of}
use Rattle.ocp_loader.specs.Admitted.{IsAdmitted, IsAdmittedAs}
use Rattle.bpf_assembler.specs.declared.fault.Why.{Why}
use Rattle.bpf_assembler.specs.Text.{Means}
use Rattle.bpf_assembler.specs.Faults.{IsFault}
use Rattle.bpf_assembler.specs.Assembling.{IsImageOfText}
use Rattle.ocp_ports.specs.Printing.{error_line}
use Rattle.ocp_commands.specs.Assembly.{Assembles, image_line, why_name}

abbrev pub OneMeaning : Type 0
OneMeaning = (text : List ℕ) (a b : List Line) → Means text a → Means text b → a ≡ b

abbrev pub OneFaultOfText : Profile → Type 0
OneFaultOfText profile = (text : List ℕ) (m n : ℕ) (y z : Why) → IsFault profile text m y → IsFault profile text n z → (m ≡ n) × (y ≡ z)

abbrev pub NoFaultOfMeaning : Profile → Type 0
NoFaultOfMeaning profile = (text : List ℕ) (lines : List Line) (number : ℕ) (y : Why) → Means text lines → IsAdmitted profile (image_of lines) → ¬ IsFault profile text number y

same_image : (profile : Profile) → OneMeaning → (text a b : List ℕ) → IsImageOfText profile text a → IsImageOfText profile text b → a ≡ b
same_image profile one text a b h k = h.admitted.whole.octets ∙ ap image_of (one text h.lines k.lines h.means k.means) ∙ sym k.admitted.whole.octets

not_faulty : (profile : Profile) → NoFaultOfMeaning profile → (text image : List ℕ) (number : ℕ) (y : Why) → IsImageOfText profile text image → IsFault profile text number y → ⊥
not_faulty profile none text image number y h k = none text h.lines number y h.means (record { lines = h.lines; admitted = subst (λ (o : List ℕ). IsAdmittedAs profile o h.lines) h.admitted.whole.octets h.admitted }) k

pub one_assembly : (profile : Profile) → OneMeaning → OneFaultOfText profile → NoFaultOfMeaning profile → (input a b : List ℕ) (x y : Bool) → Assembles profile input a x → Assembles profile input b y → (a ≡ b) × (x ≡ y)
one_assembly profile one only none input a b true true h k = (h.text ∙ ap image_line (same_image profile one input h.image k.image h.meant k.meant) ∙ sym k.text, refl)
one_assembly profile one only none input a b true false h (inl k) = absurd (omega (arith, h.few, k.many))
one_assembly profile one only none input a b true false h (inr k) = absurd (not_faulty profile none input h.image k.line k.why h.meant k.fault)
one_assembly profile one only none input a b false true (inl h) k = absurd (omega (arith, k.few, h.many))
one_assembly profile one only none input a b false true (inr h) k = absurd (not_faulty profile none input k.image h.line h.why k.meant h.fault)
one_assembly profile one only none input a b false false (inl h) (inl k) = (h.text ∙ sym k.text, refl)
one_assembly profile one only none input a b false false (inl h) (inr k) = absurd (omega (arith, k.few, h.many))
one_assembly profile one only none input a b false false (inr h) (inl k) = absurd (omega (arith, h.few, k.many))
one_assembly profile one only none input a b false false (inr h) (inr k) =
    let same = only input h.line k.line h.why k.why h.fault k.fault in
    (h.text ∙ ap₂ (λ (n : ℕ) (y : Why). error_line n (why_name y)) same.0 same.1 ∙ sym k.text, refl)
