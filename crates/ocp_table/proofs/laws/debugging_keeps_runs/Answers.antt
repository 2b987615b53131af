use Rattle.ocp_table.proofs.Lawful.{runs_stay}
use Rattle.ocp_table.proofs.laws.debugging_keeps_runs.Goals as goal

pub returns : goal.returns
returns c change id q m is = runs_stay m q change id is
