-- Octets spell one instruction at most, and it is the one that is found.
use Rattle.std.proofs.Common.{◌≡◌, ℕ, ◌+◌, ◌≤◌, List, length, Option, Some, None, sym, ap, refl, ◌∙◌, subst, arith, length-append, true, false, ◌⊎◌, inl, inr}
use Rattle.std.proofs.lemmas.Bool.{cases_eq}
use Rattle.std.specs.Prelude.{◌==◌}
use Rattle.std.proofs.lemmas.Option.{same_Some}
use Rattle.std.proofs.lemmas.Bool.Decides.{Decides-eqb}
use Rattle.bpf_types.specs.declared.line.Fields.{Fields}
use Rattle.bpf_types.specs.declared.line.Line.{Line}
use Rattle.bpf_types.specs.declared.line.Line.TheVariants as line
use Rattle.bpf_types.specs.Line.{first_slot, spelling, WritesFramePointer, written_dst}
use Rattle.bpf_decode.specs.declared.fault.DecodeFault.{DecodeFault}
use Rattle.bpf_decode.specs.declared.fault.DecodeFault.TheVariants as fault
use Rattle.bpf_decode.specs.Mirror.Decoding.{raw_fields, line_at}
use Rattle.bpf_decode.specs.Decoding.{BeginsWith}
use Rattle.bpf_decode.specs.Faults.{IsFirst}
use Rattle.bpf_decode.proofs.Complete.{complete}
use Rattle.bpf_decode.proofs.Decode.{fields_of, line_found, in_range, registers_there, not_wide}

pub found_at : (octets : List ℕ) (l : Line) → BeginsWith octets l → line_at (raw_fields octets) octets ≡ Some l
found_at octets l b = ap (λ f. line_at f octets) (fields_of octets l b) ∙ ap (line_at (first_slot l)) b.2 ∙ line_found l b.0 b.1

pub unique : (octets : List ℕ) (l m : Line) → BeginsWith octets l → BeginsWith octets m → l ≡ m
unique octets l m a b = same_Some l m (sym (found_at octets l a) ∙ found_at octets m b)

pub wide_length : (l : Line) → (first_slot l).opcode ≡ 0x18 → 16 ≤ length (spelling l)
wide_length (line.LoadWide dst value) e = omega arith
wide_length l e =
    let no : ((first_slot l).opcode == 0x18) ≡ false = not_wide (first_slot l) l (complete l refl) in
    let yes : ((first_slot l).opcode == 0x18) ≡ true = (Decides-eqb (first_slot l).opcode 0x18).1 e in
    absurd cc

-- octets with a first fault begin with no instruction that may be loaded
no_line : (octets : List ℕ) (f : DecodeFault) (l : Line) → IsFirst f octets → BeginsWith octets l → ¬ WritesFramePointer l → ⊥
no_line octets fault.CutWide l err b n =
    let opcode : (first_slot l).opcode ≡ 0x18 = sym (ap (λ (f : Fields). f.opcode) (fields_of octets l b)) ∙ err.0 in
    let long : 16 ≤ length (spelling l) = wide_length l opcode in
    let whole : length octets ≡ length (spelling l) + length b.1 = ap length b.2 ∙ length-append (spelling l) b.1 in
    omega (arith, err.1)
no_line octets fault.UnknownOpcode l err b n = err.1 (l, sym (ap (λ (f : Fields). f.opcode) (fields_of octets l b)))
no_line octets fault.BadRegister l err b n =
    let r = in_range l b.0 in
    registers_there octets (first_slot l) (sym (fields_of octets l b)) r.dst r.src err.2
no_line octets fault.ReservedField l err b n = err.3 l b
no_line octets fault.WritesFramePointer l err b n = n (subst WritesFramePointer (unique octets err.4.0 l err.4.1 b) err.4.2)

ten_or : (o : Option ℕ) → (o ≡ Some 10) ⊎ (¬ (o ≡ Some 10))
ten_or (Some n) = elim (cases_eq n 10) [ inl e ↦ inl (ap Some e) | inr d ↦ inr (λ h. d (same_Some n 10 h)) ]
ten_or None = inr (λ h. cc)

-- whether R10 would be written
pub decide : (l : Line) → (WritesFramePointer l) ⊎ (¬ WritesFramePointer l)
decide l = ten_or (written_dst l)

pub no_fault : (octets : List ℕ) (fault : DecodeFault) (l : Line) → IsFirst fault octets → BeginsWith octets l → WritesFramePointer l
no_fault octets f l first b = elim (decide l) [
  | inl h ↦ h
  | inr n ↦ absurd (no_line octets f l first b n)
]
