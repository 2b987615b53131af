use Rattle.std.proofs.Common.{subst, sym}
use Rattle.pus_fields.specs.ErrorControl.{IsRemainder, bits}
use Rattle.pus_fields.specs.Mirror.Register.{dividend}
use Rattle.pus_fields.proofs.Bits.{length-bits}
use Rattle.pus_fields.proofs.Eight.{fed_divides, after_eight}
use Rattle.pus_fields.proofs.error_control.register_after_eight.Goals as goal

pub returns : goal.returns
returns c rest r h =
    let fed_is = after_eight c.args.register c.args.octets.now _ _ _ _ _ _ _ _ c.told-octets
    (record { is = c.remainder-8.ensures })
    (record { is = c.remainder-7.ensures })
    (record { is = c.remainder-6.ensures })
    (record { is = c.remainder-5.ensures })
    (record { is = c.remainder-4.ensures })
    (record { is = c.remainder-3.ensures })
    (record { is = c.remainder-2.ensures })
    (record { is = c.remainder.ensures }) in
    fed_divides c.args.octets.now (bits 16 c.args.register) rest r (length-bits 16 c.args.register) (subst (λ s. IsRemainder (dividend s rest) r) (sym fed_is) h)
