-- What is decoded is there: the instruction that the octets begin with, or their first fault.
use Rattle.std.proofs.Common.{◌≡◌, ◌<◌, ◌≤◌, ◌%◌, ◌/◌, ℕ, List, length, get_or, Bool, true, false, Option, Some, None, Ok, Err, refl, sym, subst, arith, inl, inr}
use Rattle.std.specs.Prelude.{◌==◌, ◌&&◌, if◌then◌else◌, nat_le, nat_lt}
use Rattle.std.proofs.lemmas.Bool.Decides.{nat_tests}
use Rattle.bpf_types.specs.declared.line.Line.{Line}
use Rattle.bpf_decode.specs.declared.fault.DecodeFault.TheVariants as fault
use Rattle.bpf_decode.specs.Mirror.Codes.{is_opcode}
use Rattle.bpf_decode.specs.Mirror.Decoding.{raw_fields, line_at, fields_in, permitted_line, permitted_line_of, spelling_in, decode_result}
use Rattle.bpf_decode.specs.Decoding.{BeginsWith}
use Rattle.bpf_decode.specs.Faults.{Has, Decodes}
use Rattle.bpf_decode.proofs.Decode.{InRange, begins, none_found, raw_in_range, registers_there}
use Rattle.bpf_decode.proofs.Decoded.{is_written, not_written}
use Rattle.bpf_decode.proofs.Known.{known, no_row}
use Rattle.bpf_decode.proofs.Only.{decide}

-- the octets have no fault that comes before that of a register
record Known (octets : List ℕ) : Type 0 where
  whole : ¬ Has fault.CutWide octets
  longer : get_or octets 0 0 ≡ 0x18 → 16 ≤ length octets
  opcode : ¬ Has fault.UnknownOpcode octets

module _ (octets : List ℕ) (long : 8 ≤ length octets) (bytes : (i : ℕ) → get_or octets i 0 < 256) where
  permitted : (l : Line) → BeginsWith octets l → Known octets → ¬ Has fault.BadRegister octets → Decodes octets (permitted_line l)
  permitted l b k r = elim (decide l) [
    | inl w ↦ subst (λ t. Decodes octets (if t then Err fault.WritesFramePointer else Ok l)) (sym (is_written l w)) (k.whole, k.opcode, r, (λ none. none l b), (l, b, w))
    | inr n ↦ subst (λ t. Decodes octets (if t then Err fault.WritesFramePointer else Ok l)) (sym (not_written l n)) (b, n)
  ]

  found : (o : Option Line) → line_at (raw_fields octets) octets ≡ o → InRange (raw_fields octets) → Known octets → ¬ Has fault.BadRegister octets → Decodes octets (permitted_line_of o)
  found (Some l) e fits k r = permitted l (begins octets l long k.longer bytes fits e) k r
  found None e fits k r = (k.whole, k.opcode, r, none_found octets e)

  registers : (d s : Bool) → nat_le (get_or octets 1 0 % 16) 10 ≡ d → nat_le (get_or octets 1 0 / 16) 10 ≡ s → Known octets → Decodes octets (spelling_in (if d && s then Some (raw_fields octets) else None) octets)
  registers true true p q k =
      let dst : get_or octets 1 0 % 16 ≤ 10 = grind (arith, nat_tests, p) in
      let src : get_or octets 1 0 / 16 ≤ 10 = grind (arith, nat_tests, q) in
      found (line_at (raw_fields octets) octets) refl (raw_in_range octets bytes dst src) k (registers_there octets (raw_fields octets) refl dst src)
  registers true false p q k = let high : 10 < get_or octets 1 0 / 16 = grind (arith, nat_tests, q) in (k.whole, k.opcode, inr high)
  registers false s p q k = let high : 10 < get_or octets 1 0 % 16 = grind (arith, nat_tests, p) in (k.whole, k.opcode, inl high)

  opcodes : (b : Bool) → is_opcode (get_or octets 0 0) ≡ b → ¬ Has fault.CutWide octets → (get_or octets 0 0 ≡ 0x18 → 16 ≤ length octets) →
      Decodes octets (if b then spelling_in (fields_in octets) octets else Err fault.UnknownOpcode)
  opcodes true e w l = registers _ _ refl refl (record { whole = w; longer = l; opcode = λ none. none (known (get_or octets 0 0) (bytes 0) e) })
  opcodes false e w l = (w, no_row (get_or octets 0 0) e)

  whole : (a b : Bool) → (get_or octets 0 0 == 0x18) ≡ a → nat_lt (length octets) 16 ≡ b →
      Decodes octets (if a && b then Err fault.CutWide else if is_opcode (get_or octets 0 0) then spelling_in (fields_in octets) octets else Err fault.UnknownOpcode)
  whole true true p q = let wide : get_or octets 0 0 ≡ 0x18 = grind (arith, nat_tests, p) in let cut : length octets < 16 = grind (arith, nat_tests, q) in (wide, cut)
  whole true false p q = let fits : 16 ≤ length octets = grind (arith, nat_tests, q) in opcodes _ refl (λ cut. omega (arith, cut.1, fits)) (λ e. fits)
  whole false b p q = let other : get_or octets 0 0 ≡ 0x18 → ⊥ = λ e. let yes : (get_or octets 0 0 == 0x18) ≡ true = grind (arith, nat_tests, e) in cc in opcodes _ refl (λ cut. other cut.0) (λ e. absurd (other e))

  pub sound : Decodes octets (decode_result octets)
  unfolding decode_result
  sound = whole _ _ refl refl
