use Rattle.ocp_c.proofs.Bounds.{requests_have_few, drains_have_few}
use Rattle.ocp_c.proofs.laws.reports_are_few.Goals as goal

pub returns-clause-requests : goal.returns-clause-requests
returns-clause-requests c = requests_have_few

pub returns-clause-drains : goal.returns-clause-drains
returns-clause-drains c = drains_have_few
