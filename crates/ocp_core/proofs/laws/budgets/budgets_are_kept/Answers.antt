use Rattle.ocp_core.proofs.Budgets.{is_within_budget, remains_are_counted, faults_spent}
use Rattle.ocp_core.proofs.laws.budgets.budgets_are_kept.Goals as goal

pub returns : goal.returns
returns c = record { within = is_within_budget; remains = remains_are_counted; fault = faults_spent }
