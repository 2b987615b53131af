-- The words of the debugger's clauses, each passed on from the file that defines it.
pub use Rattle.std.specs.FinMap.{get}
pub use Rattle.std.specs.List.{flat_map}
pub use Rattle.ocp_table.specs.Effects.{with_breakpoint, without_breakpoint, records_by}
pub use Rattle.ocp_table.specs.declared.record.TheConstants.{MAX_BREAKPOINTS}
pub use Rattle.ocp_table.specs.Records.{Records}
pub use Rattle.ocp_table.specs.Laws.{run_of}
pub use Rattle.ocp_table.specs.Shown.{view_at}
pub use Rattle.ocp_table.specs.RequestTable.{Step}
pub use Rattle.ocp_table.specs.Deciding.{effect_in, ExecutesStep}
pub use Rattle.ocp_table.specs.Slices.{step_ended}
pub use Rattle.ocp_debug.specs.Commands.{is_set, fault_on, command_result, table_by_command}
pub use Rattle.ocp_debug.specs.Commands.{command_effect}
pub use Rattle.ocp_debug.specs.Mirror.Settings.{table_by_setting, Decides}
pub use Rattle.ocp_debug.specs.Mirror.Breakpoints.{rank}
pub use Rattle.ocp_debug.specs.Traces.{last_traces, traces_by}
pub use Rattle.ocp_debug.specs.declared.command.Command.{Command}
pub use Rattle.ocp_debug.specs.declared.trace.Trace.{Trace}
pub use Rattle.ocp_debug.specs.Memory.{Reads}
pub use Rattle.ocp_debug.specs.Appending.{Appends}
pub use Rattle.ocp_debug.specs.Texts.{trace_line, word_text, status_name, cause_text, pending_text}
pub use Rattle.ocp_debug.specs.Texts.{outcome_text, view_line, register_line, view_lines}
pub use Rattle.ocp_debug.specs.Texts.{register_lines, words_text, debug_fault_name}
pub use Rattle.ocp_debug.specs.Mirror.Tracing.{traced_place, trace_after}
