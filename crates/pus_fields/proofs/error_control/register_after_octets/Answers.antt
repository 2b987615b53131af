use Rattle.std.proofs.Common.{suc, [], ◌∷◌, get_or, drop, subst, sym, add-one, arith}
use Rattle.std.proofs.Math.ListN.{drop_of_length-le}
use Rattle.pus_fields.specs.ErrorControl.{IsRemainder, bits, octet_bits}
use Rattle.pus_fields.specs.Mirror.Register.{dividend}
use Rattle.pus_fields.proofs.Bits.{length-bits}
use Rattle.pus_fields.proofs.Eight.{after_one, fed_divides}
use Rattle.pus_fields.proofs.Steps.{next_octet}
use Rattle.pus_fields.proofs.error_control.register_after_octets.Goals as goal

pub loop-octet-preserved : goal.loop-octet-preserved
loop-octet-preserved c r h =
    let next = c.loop-octet.next in
    let index = c.loop-octet.octet-index in
    let octets = c.args.octets.now in
    let fed_is = after_one next (get_or octets index 0) c.remainder.result (record { is = c.remainder.ensures }) in
    let more = fed_divides (get_or octets index 0 ∷ []) (bits 16 next) (octet_bits (drop (suc index) octets)) r (length-bits 16 next) (subst (λ s. IsRemainder (dividend s (octet_bits (drop (suc index) octets))) r) (sym fed_is) (rw (← add-one) h)) in
    c.loop-octet.invariant r (next_octet octets index next r (omega arith) more)

pub returns : goal.returns
returns c r h = c.loop-octet.invariant r (subst (λ t. IsRemainder (dividend (bits 16 c.loop-octet.next) (octet_bits t)) r) (sym (drop_of_length-le c.args.octets.now (omega arith))) h)
