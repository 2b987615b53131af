-- What the function reads is what the octets spell.
use Rattle.std.proofs.Common.{◌≡◌, ◌≢◌, ℕ, ◌+◌, ◌≤◌, ◌%◌, ◌/◌, List, length, Option, Some, None, Result, Ok, Err, sym, ap, refl, ◌∙◌, subst, arith, length-append, Bool, true, false, ◌&&◌}
use Rattle.std.specs.Prelude.{◌==◌, nat_lt, nat_le, if◌then◌else◌, slice_index}
use Rattle.std.proofs.lemmas.Bool.Decides.{nat_tests}
use Rattle.bpf_types.specs.declared.line.Fields.{Fields}
use Rattle.bpf_types.specs.declared.line.Line.{Line}
use Rattle.bpf_types.specs.Line.{first_slot, spelling, WritesFramePointer, written_dst}
use Rattle.bpf_types.specs.Mirror.{writes_frame_pointer, is_frame_pointer}
use Rattle.bpf_decode.specs.declared.fault.DecodeFault.{DecodeFault}
use Rattle.bpf_decode.specs.declared.fault.DecodeFault.TheVariants as fault
use Rattle.bpf_decode.specs.Mirror.Codes.{is_opcode}
use Rattle.bpf_decode.specs.Mirror.Decoding.{raw_fields, fields_in, permitted_line_of, spelling_in, decode_result}
use Rattle.bpf_decode.specs.Decoding.{BeginsWith}
use Rattle.bpf_decode.proofs.Decode.{fields_of, in_range}
use Rattle.bpf_decode.proofs.Complete.{known_line}
use Rattle.bpf_decode.proofs.Only.{found_at, wide_length}

not_ten : (o : Option ℕ) → ¬ (o ≡ Some 10) → is_frame_pointer o ≡ false
not_ten (Some n) h = not_equal n (λ e. h (ap Some e))
  where
    not_equal : (n : ℕ) → n ≢ 10 → (n == 10) ≡ false
    not_equal n h = grind (arith, nat_tests)
not_ten None h = refl

pub not_written : (l : Line) → ¬ WritesFramePointer l → writes_frame_pointer l ≡ false
not_written l h = not_ten (written_dst l) h

not_cut : (c d : Bool) → (c ≡ true → d ≡ false) → (c && d) ≡ false
not_cut true d h = h refl
not_cut false d h = refl

by_tests : (a b : Bool) (o : Option Fields) (octets : List ℕ) (r : Result Line DecodeFault) → a ≡ false → b ≡ true → spelling_in o octets ≡ r →
    (if a then Err fault.CutWide else if b then spelling_in o octets else Err fault.UnknownOpcode) ≡ r
by_tests true b o octets r p q h = absurd cc
by_tests false true o octets r p q h = h
by_tests false false o octets r p q h = absurd cc

both_there : (x y : ℕ) (f : Fields) → x ≤ 10 → y ≤ 10 → (if nat_le x 10 && nat_le y 10 then Some f else None) ≡ Some f
both_there x y f p q =
    let a : nat_le x 10 ≡ true = grind (arith, nat_tests) in
    let b : nat_le y 10 ≡ true = grind (arith, nat_tests) in
    rw (a, b) refl

not_short : (n : ℕ) → 16 ≤ n → nat_lt n 16 ≡ false
not_short n h = grind (arith, nat_tests)

is_eighteen : (n : ℕ) → (n == 0x18) ≡ true → n ≡ 0x18
is_eighteen n h = grind (arith, nat_tests)

result_of : (octets : List ℕ) (l : Line) → BeginsWith octets l → (c : Bool) → writes_frame_pointer l ≡ c → decode_result octets ≡ (if c then Err fault.WritesFramePointer else Ok l)
unfolding decode_result
result_of octets l b c w =
    let f : raw_fields octets ≡ first_slot l = fields_of octets l b in
    let op : slice_index octets 0 ≡ (first_slot l).opcode = ap (λ (f : Fields). f.opcode) f in
    let r = in_range l b.0 in
    let dst : slice_index octets 1 % 16 ≤ 10 = subst (λ (f : Fields). f.dst ≤ 10) (sym f) r.dst in
    let src : slice_index octets 1 / 16 ≤ 10 = subst (λ (f : Fields). f.src ≤ 10) (sym f) r.src in
    let whole : length octets ≡ length (spelling l) + length b.1 = ap length b.2 ∙ length-append (spelling l) b.1 in
    by_tests _ _ (fields_in octets) octets _
    (not_cut _ _ (λ e. not_short (length octets) (let w : 16 ≤ length (spelling l) = wide_length l (sym op ∙ is_eighteen _ e) in omega (arith, w, whole))))
    (ap is_opcode op ∙ known_line l)
    (ap (λ o. spelling_in o octets) (both_there (slice_index octets 1 % 16) (slice_index octets 1 / 16) (raw_fields octets) dst src)
    ∙ ap permitted_line_of (found_at octets l b) ∙ ap (λ c. if c then Err fault.WritesFramePointer else Ok l) w)

pub decoded_of : (octets : List ℕ) (l : Line) → BeginsWith octets l → ¬ WritesFramePointer l → decode_result octets ≡ Ok l
decoded_of octets l b n = result_of octets l b false (not_written l n)

pub is_written : (l : Line) → WritesFramePointer l → writes_frame_pointer l ≡ true
is_written l h = ap is_frame_pointer h

pub refused_of : (octets : List ℕ) (l : Line) → BeginsWith octets l → WritesFramePointer l → decode_result octets ≡ Err fault.WritesFramePointer
refused_of octets l b w = result_of octets l b true (is_written l w)
