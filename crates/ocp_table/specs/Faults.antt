-- The number of the fault that a procedure ends in, as texts, views and traces show it.
use Rattle.std.specs.Prelude.{ℕ}
use Rattle.bpf_step.specs.Machine as machine
use Rattle.ocp_pool.specs.Call as pool
use Rattle.ocp_table.specs.declared.fault.ProcedureFault.{ProcedureFault}
use Rattle.ocp_table.specs.declared.fault.ProcedureFault.TheVariants.{Machine, Pool, BudgetSpent}

-- first those of the machine, then that of an engine call, then that of the budget
abbrev pub fault_number : ProcedureFault → ℕ
fault_number (Machine fault) = machine.fault_number fault
fault_number (Pool fault) = pool.fault_number fault
fault_number BudgetSpent = 5
