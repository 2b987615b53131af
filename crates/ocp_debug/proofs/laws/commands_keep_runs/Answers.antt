use Rattle.std.specs.FinMap.{get}
use Rattle.ocp_debug.specs.Commands.{fault_on}
use Rattle.ocp_debug.proofs.Commanded.{runs_kept}
use Rattle.ocp_debug.proofs.laws.commands_keep_runs.Goals as goal

pub returns : goal.returns
returns c command id q m = runs_kept id q m (λ change is. c.debugging_keeps_runs.ensures change id q m is) (fault_on command (get m id)) command
