use Rattle.std.proofs.Common.{arith}
use Rattle.ocp_table.proofs.Budgets.{within_left}
use Rattle.ocp_table.proofs.Slicing.{local_count_within}
use Rattle.ocp_table.proofs.snapshot.Snapshot.run.Goals as goal

pub returns-clause-within : goal.returns-clause-within
returns-clause-within g c = grind (arith, local_count_within, within_left)
