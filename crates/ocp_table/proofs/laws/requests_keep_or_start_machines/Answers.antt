use Rattle.ocp_table.proofs.Lawful.{kept_or_started}
use Rattle.ocp_table.proofs.laws.requests_keep_or_start_machines.Goals as goal

pub returns : goal.returns
returns c directive id q m asked = kept_or_started m q directive id asked
