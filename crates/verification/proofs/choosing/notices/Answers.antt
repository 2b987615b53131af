use Rattle.std.proofs.Common.{◌≡◌, ◌∙◌, arith}
use Rattle.std.proofs.lemmas.Grind.{common_steps}
use Rattle.pus_fields.specs.Acknowledgement.{flags_of}
use Rattle.verification.specs.Reports.{wants_acceptance, wants_start}
use Rattle.verification.proofs.Wanted.{mask_one, mask_two}
use Rattle.verification.proofs.choosing.notices.Goals as goal
use Rattle.verification.proofs.choosing.notices.Goals.{in-Done, in_default-outcome-2}

pub returns-in-NotStarted : goal.returns-in-NotStarted
returns-in-NotStarted c = grind (arith, common_steps)

pub returns : goal.returns
returns c =
    let acceptance : c.contains.result ≡ wants_acceptance c.args.ack = c.contains.ensures _ ∙ mask_one (flags_of c.args.ack) in
    let start : c.contains-2.result ≡ wants_start c.args.ack = c.contains-2.ensures _ ∙ mask_two (flags_of c.args.ack) in
    elim c.match-outcome-3.branch [ in-Done w ↦ grind (arith, common_steps) | in_default-outcome-2 w ↦ grind (arith, common_steps) ]
