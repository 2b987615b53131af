-- The octets of an instruction, and zeros up to two slots, are decoded as that instruction.
use Rattle.std.proofs.Common.{◌≡◌, ℕ, ◌+◌, ◌≤◌, ◌<◌, List, [], ◌++◌, length, take, get_or, Result, Ok, Err, refl, sym, ap, ◌∙◌, subst, arith, true, false, length-append}
use Rattle.std.specs.Prelude.{◌==◌, IsOk, slice_index}
use Rattle.bpf_types.specs.declared.line.Fields.{Fields}
use Rattle.bpf_types.specs.declared.line.Line.{Line}
use Rattle.bpf_types.specs.declared.line.Line.TheVariants as line
use Rattle.bpf_types.specs.Line.{first_slot, second_slot, slot_octets, spelling}
use Rattle.bpf_decode.specs.declared.fault.DecodeFault.{DecodeFault}
use Rattle.bpf_decode.specs.Mirror.Decoding.{decode_result}
use Rattle.bpf_decode.specs.Decoding.{BeginsWith}
use Rattle.bpf_decode.specs.Faults.{Decodes}
use Rattle.bpf_decode.specs.Encoded.{or_zeros, two_slots, line_or_exit, line_of_slots}
use Rattle.bpf_decode.proofs.Decode.{fields_of, not_wide}
use Rattle.bpf_decode.proofs.Complete.{complete}
use Rattle.std.proofs.lemmas.Bool.Decides.{Decides-eqb}
use Rattle.bpf_decode.proofs.Decoded.{decoded_of}
use Rattle.bpf_decode.proofs.Only.{wide_length}
use Rattle.bpf_decode.proofs.Sound.{sound}

is_line : (r : Result Line DecodeFault) → IsOk r → r ≡ Ok (line_or_exit r)
is_line (Ok l) i = refl
is_line (Err fault) i = absurd cc

abbrev pub zeros : List ℕ
zeros = or_zeros []

-- the two slots of a wide load
both_of : (l : Line) (octets : List ℕ) → BeginsWith octets l → (first_slot l).opcode ≡ 0x18 → take 16 octets ≡ two_slots l
both_of (line.LoadWide dst value) octets b w = ap (take 16) b.2
both_of l octets b w =
    let no : ((first_slot l).opcode == 0x18) ≡ false = not_wide (first_slot l) l (complete l refl) in
    let yes : ((first_slot l).opcode == 0x18) ≡ true = (Decides-eqb (first_slot l).opcode 0x18).1 w in
    absurd cc

none_of : (l : Line) → ¬ ((first_slot l).opcode ≡ 0x18) → zeros ≡ or_zeros (second_slot l)
none_of (line.LoadWide dst value) n = absurd (n refl)
none_of l n = refl

-- the zeros after an instruction of one slot
rest_of : Line → List ℕ
rest_of (line.LoadWide dst value) = []
rest_of l = zeros

filled : (l : Line) → two_slots l ≡ spelling l ++ rest_of l
unfolding rest_of
filled (line.LoadWide dst value) = refl
filled l = refl

module _ (octets : List ℕ) (long : 8 ≤ length octets) (bytes : (i : ℕ) → get_or octets i 0 < 256) (ok : IsOk (decode_result octets)) where
  abbrev l : Line
  l = line_of_slots octets

  e : decode_result octets ≡ Ok l
  e = is_line (decode_result octets) ok

  is : Decodes octets (Ok l)
  is = subst (Decodes octets) e (sound octets long bytes)

  opcode : slice_index octets 0 ≡ (first_slot l).opcode
  opcode = ap (λ (f : Fields). f.opcode) (fields_of octets l is.0)

  first : take 8 octets ≡ slot_octets (first_slot l)
  first = ap (take 8) is.0.2

  -- a wide load has its second slot
  pub has_second : slice_index octets 0 ≡ 0x18 → 16 ≤ length octets
  has_second w =
      let whole : length octets ≡ length (spelling l) + length is.0.1 = ap length is.0.2 ∙ length-append (spelling l) is.0.1 in
      let two = wide_length l (sym opcode ∙ w) in
      omega (arith, whole, two)

  -- its octets in two slots
  pub wide : slice_index octets 0 ≡ 0x18 → take 16 octets ≡ two_slots l
  wide w = both_of l octets is.0 (sym opcode ∙ w)

  pub short : ¬ (slice_index octets 0 ≡ 0x18) → take 8 octets ++ zeros ≡ two_slots l
  short n = ap (λ s. s ++ zeros) first ∙ ap (λ s. slot_octets (first_slot l) ++ s) (none_of l (λ w. n (opcode ∙ w)))

  -- and they are decoded as it
  pub is_decoded : decode_result (two_slots l) ≡ Ok l
  is_decoded = decoded_of (two_slots l) l (is.0.0, rest_of l, filled l) is.1

  same : (kept : List ℕ) → kept ≡ two_slots l → line_of_slots kept ≡ l
  same kept q = ap line_or_exit (ap decode_result q ∙ is_decoded)

  pub is_kept : (kept : List ℕ) → kept ≡ two_slots l → (decode_result octets ≡ Ok (line_of_slots kept)) × (kept ≡ two_slots (line_of_slots kept))
  is_kept kept q = (e ∙ ap (λ (x : Line). Ok x) (sym (same kept q)), q ∙ ap two_slots (sym (same kept q)))
