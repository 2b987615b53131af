use Rattle.std.specs.FinMap.{get}
use Rattle.ocp_debug.specs.Commands.{fault_on}
use Rattle.ocp_world.proofs.Lawful.{run_kept}
use Rattle.ocp_world.proofs.laws.a_debugger_changes_breakpoints_and_trace_flags_alone.Goals as goal

pub returns-clause-procedures : goal.returns-clause-procedures
returns-clause-procedures c w by own id command = run_kept c.debugging_keeps_runs.ensures (fault_on command (get w.records own)) command own id w.records
