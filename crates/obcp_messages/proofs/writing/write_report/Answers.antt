use Rattle.std.proofs.Common.{refl, rules}
use Rattle.obcp_messages.proofs.writing.write_report.Goals as goal

pub returns-clause-laid_out : goal.returns-clause-laid_out
returns-clause-laid_out g c = record { of_service = refl; of_subtype = refl; in_range = c.report_fields-fields.ensures.in_range; fields = refl }

pub returns-clause-written : goal.returns-clause-written
returns-clause-written g c = search rules
