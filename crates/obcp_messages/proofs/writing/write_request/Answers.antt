use Rattle.std.proofs.Common.{arith}
use Rattle.std.proofs.lemmas.Grind.{common_steps}
use Rattle.std.proofs.Common.{refl}
use Rattle.obcp_messages.proofs.writing.write_request.Goals as goal

pub returns-in_err-reserve-clause-laid_out : goal.returns-in_err-reserve-clause-laid_out
returns-in_err-reserve-clause-laid_out g c = record { of_service = refl; of_subtype = refl; in_range = c.request_parts-fields.ensures.in_range; fields = refl }

pub returns-clause-laid_out : goal.returns-clause-laid_out
returns-clause-laid_out g c = record { of_service = refl; of_subtype = refl; in_range = c.request_parts-fields.ensures.in_range; fields = refl }

pub returns-clause-written : goal.returns-clause-written
returns-clause-written g c = grind (arith, common_steps)
