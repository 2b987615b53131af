-- An input has one output.
use Rattle.std.proofs.Common.{◌≡◌, ◌%◌, ℕ, Bool, true, false, List, [], None, refl, sym, ap, ap₂, ◌∙◌, subst, arith, length}
use Rattle.bpf_decode.specs.declared.fault.DecodeFault.{DecodeFault}
use Rattle.bpf_decode.specs.Images.{HasFaultAt}
use Rattle.bpf_listing.specs.Listing.{IsListed}
use Rattle.ocp_commands.specs.declared.listing.ListFault.{ListFault}
use Rattle.ocp_commands.specs.declared.listing.ListFault.TheVariants as fault
use Rattle.ocp_commands.specs.Listings.{image_in, HasImage, HasListFault, Lists, list_fault_line}

-- what the law of bpf_listing states about listings and faults
abbrev pub OneListing : Type 0
OneListing = (image a b : List ℕ) → IsListed image [] a → IsListed image [] b → a ≡ b

abbrev pub WholeSlots : Type 0
WholeSlots = (image a : List ℕ) → IsListed image [] a → length image % 8 ≡ 0

abbrev pub NotBoth : Type 0
NotBoth = (image a : List ℕ) (slot : ℕ) (f : DecodeFault) → IsListed image [] a → ¬ HasFaultAt image slot f

abbrev pub OneFault : Type 0
OneFault = (image : List ℕ) (s t : ℕ) (f g : DecodeFault) → HasFaultAt image s f → HasFaultAt image t g → (f ≡ g) × (s ≡ t)

one_image_in : (input a b : List ℕ) → HasImage input a → HasImage input b → a ≡ b
one_image_in input a b h k = let p = sym h.digits ∙ k.digits in cc

has_no_image : (input image : List ℕ) → HasImage input image → image_in input ≡ None → ⊥
has_no_image input image h e = let p = sym h.digits ∙ e in absurd cc

-- a listing and a fault
not_listed : WholeSlots → NotBoth → (input image text : List ℕ) (f : ListFault) → HasImage input image → IsListed image [] text → HasListFault input f → ⊥
not_listed slots sound input image text fault.TooLong i h k = absurd (omega (arith, i.few, k))
not_listed slots sound input image text fault.Hex i h k = has_no_image input image i k.1
not_listed slots sound input image text fault.Ragged i h k =
    let same = one_image_in input image k.0 i k.1 in
    k.2 (ap (λ (o : List ℕ). length o % 8) (sym same) ∙ slots image text h)
not_listed slots sound input image text (fault.Decode f s) i h k =
    let same = one_image_in input image k.0 i k.1 in
    sound k.0 text s f (subst (λ (o : List ℕ). IsListed o [] text) same h) k.3

one_list_fault : OneFault → (input : List ℕ) (f g : ListFault) → HasListFault input f → HasListFault input g → f ≡ g
one_list_fault once input fault.TooLong fault.TooLong h k = refl
one_list_fault once input fault.TooLong fault.Hex h k = absurd (omega (arith, h, k.0))
one_list_fault once input fault.TooLong fault.Ragged h k = absurd (omega (arith, h, k.1.few))
one_list_fault once input fault.TooLong (fault.Decode g t) h k = absurd (omega (arith, h, k.1.few))
one_list_fault once input fault.Hex fault.TooLong h k = absurd (omega (arith, k, h.0))
one_list_fault once input fault.Hex fault.Hex h k = refl
one_list_fault once input fault.Hex fault.Ragged h k = absurd (has_no_image input k.0 k.1 h.1)
one_list_fault once input fault.Hex (fault.Decode g t) h k = absurd (has_no_image input k.0 k.1 h.1)
one_list_fault once input fault.Ragged fault.TooLong h k = absurd (omega (arith, k, h.1.few))
one_list_fault once input fault.Ragged fault.Hex h k = absurd (has_no_image input h.0 h.1 k.1)
one_list_fault once input fault.Ragged fault.Ragged h k = refl
one_list_fault once input fault.Ragged (fault.Decode g t) h k = absurd (h.2 (ap (λ (o : List ℕ). length o % 8) (one_image_in input h.0 k.0 h.1 k.1) ∙ k.2))
one_list_fault once input (fault.Decode f s) fault.TooLong h k = absurd (omega (arith, k, h.1.few))
one_list_fault once input (fault.Decode f s) fault.Hex h k = absurd (has_no_image input h.0 h.1 k.1)
one_list_fault once input (fault.Decode f s) fault.Ragged h k = absurd (k.2 (ap (λ (o : List ℕ). length o % 8) (one_image_in input k.0 h.0 k.1 h.1) ∙ h.2))
one_list_fault once input (fault.Decode f s) (fault.Decode g t) h k =
    let same = one_image_in input h.0 k.0 h.1 k.1 in
    let both = once k.0 s t f g (subst (λ (o : List ℕ). HasFaultAt o s f) same h.3) k.3 in
    ap₂ fault.Decode both.0 both.1

pub one_output : OneListing → WholeSlots → NotBoth → OneFault → (input a b : List ℕ) (x y : Bool) → Lists input a x → Lists input b y → (a ≡ b) × (x ≡ y)
one_output listed slots sound once input a b true true h k =
    let same = one_image_in input h.0 k.0 h.1 k.1 in
    (listed k.0 a b (subst (λ (o : List ℕ). IsListed o [] a) same h.2) k.2, refl)
one_output listed slots sound once input a b true false h k = absurd (not_listed slots sound input h.0 a k.0 h.1 h.2 k.1)
one_output listed slots sound once input a b false true h k = absurd (not_listed slots sound input k.0 b h.0 k.1 k.2 h.1)
one_output listed slots sound once input a b false false h k = (h.2 ∙ ap list_fault_line (one_list_fault once input h.0 k.0 h.1 k.1) ∙ sym k.2, refl)
