use Rattle.std.proofs.Common.{rules, ℕ, ◌≡◌, ◌<◌, ◌++◌, get_or, ap, ◌∙◌}
use Rattle.bpf_decode.specs.Encoded.{line_of_slots, two_slots}
use Rattle.bpf_decode.proofs.TwoSlots.{zeros, has_second, wide, short, is_kept}
use Rattle.bpf_decode.proofs.encoded.EncodedLine.first_of.Goals as goal
use Rattle.bpf_decode.proofs.encoded.EncodedLine.first_of.Goals.{then-octets-eq-LDDW, else-octets-eq-LDDW}

pub slice_bounds-copy_from_slice-end-then-octets-eq-LDDW :
    goal.slice_bounds-copy_from_slice-end-then-octets-eq-LDDW
slice_bounds-copy_from_slice-end-then-octets-eq-LDDW c =
    let has = has_second c.args.octets.now c.requires.long (λ i. (c.type_inv.octets i).fits) c.requires.decoded c.if-octets-eq-LDDW.true in
    search (rules, has)

pub copy_from_slice-requires : goal.copy_from_slice-requires
copy_from_slice-requires c =
    let has = has_second c.args.octets.now c.requires.long (λ i. (c.type_inv.octets i).fits) c.requires.decoded c.if-octets-eq-LDDW.true in
    search (rules, has)

kept : (c : goal.Joined-octets-eq-LDDW) → c.if-octets-eq-LDDW.slots ≡ two_slots (line_of_slots c.args.octets.now)
kept c =
    let bytes : (i : ℕ) → get_or c.args.octets.now i 0 < 256 = λ i. (c.type_inv.octets i).fits in
    elim c.if-octets-eq-LDDW.branch [
      | then-octets-eq-LDDW w ↦
          w.slots-is ∙ w.copy_from_slice.ensures.after ∙ wide c.args.octets.now c.requires.long bytes c.requires.decoded w.if-octets-eq-LDDW.true
      | else-octets-eq-LDDW w ↦
          w.slots-is ∙ ap (λ s. s ++ zeros) w.copy_from_slice-else-octets-eq-LDDW.ensures.after
          ∙ short c.args.octets.now c.requires.long bytes c.requires.decoded w.if-octets-eq-LDDW.false
    ]

pub invariant_of-result : goal.invariant_of-result
invariant_of-result c = (is_kept c.args.octets.now c.requires.long (λ i. (c.type_inv.octets i).fits) c.requires.decoded c.if-octets-eq-LDDW.slots (kept c)).1

pub returns : goal.returns
returns c = (is_kept c.args.octets.now c.requires.long (λ i. (c.type_inv.octets i).fits) c.requires.decoded c.if-octets-eq-LDDW.slots (kept c)).0
