-- What a debugger's command leaves.
use Rattle.std.proofs.Common.{◌≡◌, ℕ, Option, Some, None, refl}
use Rattle.std.specs.FinMap.{get}
use Rattle.ocp_table.specs.Records.{Records}
use Rattle.ocp_table.specs.Effects.{Change, Changed, records_by}
use Rattle.ocp_debug.specs.declared.command.Command.{Command}
use Rattle.ocp_debug.specs.declared.command.Command.TheVariants.{SetBreak, ClearBreak, SetTrace}
use Rattle.ocp_table.specs.Laws.{run_of, IsDebugging}
use Rattle.ocp_debug.specs.declared.command.DebugFault.{DebugFault}
use Rattle.ocp_debug.specs.Commands.{change_of, effect_by}

is_debugging : (command : Command) → IsDebugging (change_of command)
is_debugging (SetBreak place) = tt
is_debugging (ClearBreak place) = tt
is_debugging (SetTrace on) = tt

-- what holds of a debugger's changes holds of its commands
pub runs_kept : (id q : ℕ) (m : Records) → ((change : Change) → IsDebugging change → run_of (get (records_by (Changed id change) m) q) ≡ run_of (get m q)) →
    (fault : Option DebugFault) (command : Command) → run_of (get (records_by (effect_by fault command id) m) q) ≡ run_of (get m q)
runs_kept id q m law None command = law (change_of command) (is_debugging command)
runs_kept id q m law (Some fault) command = refl
