-- What was decided of a debugger's command, as the code hands it on.
use Rattle.std.specs.Prelude.{◌≡◌, ℕ, None}
use Rattle.std.specs.FinMap.{get}
use Rattle.ocp_table.specs.Records.{Procedures}
use Rattle.ocp_table.specs.Effects.{table_with, with_breakpoints, with_trace_flag}
use Rattle.ocp_debug.specs.declared.command.Command.{Command}
use Rattle.ocp_debug.specs.declared.commands.Setting.{Setting}
use Rattle.ocp_debug.specs.declared.commands.Setting.TheVariants as setting
use Rattle.ocp_debug.specs.Commands.{fault_on, table_by_command}

-- what a setting leaves of a table
abbrev pub table_by_setting : Setting → ℕ → Procedures → Procedures
table_by_setting (setting.Breakpoints places) id t = table_with id (with_breakpoints places.items) t
table_by_setting (setting.Traced on) id t = table_with id (with_trace_flag on) t

-- the command is not refused in this table, and does what the setting does
pub record Decides (t : Procedures) (id : ℕ) (command : Command) (s : Setting) : Type 0 where
  pub fault : fault_on command (get t.records id) ≡ None
  pub table : table_by_setting s id t ≡ table_by_command command id t
