use Rattle.std.proofs.Common.{[], get_or, ap, ◌∙◌, arith}
use Rattle.pus_fields.specs.ErrorControl.{bits}
use Rattle.pus_fields.specs.declared.error_control.remainders.TheConstants.{REMAINDERS}
use Rattle.pus_fields.proofs.Remainders.{remainder_at}
use Rattle.pus_fields.proofs.error_control.remainder.Goals as goal

pub returns : goal.returns
returns c =
    ap (λ i. bits 16 (get_or (get_or REMAINDERS c.args.zeros []) i 0)) c.from.ensures
    ∙ remainder_at c.args.octet c.args.zeros c.requires (omega arith)
