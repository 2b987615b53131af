use Rattle.ocp_table.proofs.Lawful.{machines_stay}
use Rattle.ocp_table.proofs.laws.other_requests_keep_machines.Goals as goal

pub returns : goal.returns
returns c directive id q m leaves = machines_stay m q directive id leaves
