use Rattle.std.proofs.Common.{arith}
use Rattle.ocp_table.proofs.Budgets.{within_most, within_left}
use Rattle.ocp_table.proofs.Slicing.{local_count_within}
use Rattle.ocp_table.proofs.execution.Execution.advance.Goals as goal

pub returns-clause-within : goal.returns-clause-within
returns-clause-within g c = grind (arith, local_count_within, within_most)

pub returns-clause-left : goal.returns-clause-left
returns-clause-left g c = grind (arith, local_count_within, within_left)

pub overflow_sub-left : goal.overflow_sub-left
overflow_sub-left g c = grind (arith, local_count_within, within_most, within_left)
