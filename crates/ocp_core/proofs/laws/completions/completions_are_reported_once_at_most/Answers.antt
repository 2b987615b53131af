use Rattle.ocp_core.proofs.Completions.{is_reported_once_at_most, each_gives_one_report}
use Rattle.ocp_core.proofs.laws.completions.completions_are_reported_once_at_most.Goals as goal

pub returns : goal.returns
returns c = record { report = is_reported_once_at_most; drain = each_gives_one_report }
