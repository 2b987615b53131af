use Rattle.ocp_world.proofs.Lawful.{kept_or_started}
use Rattle.ocp_world.proofs.laws.requests_keep_or_start_machines.Goals as goal

pub returns : goal.returns
returns c = kept_or_started c.requests_keep_or_start_machines.ensures
