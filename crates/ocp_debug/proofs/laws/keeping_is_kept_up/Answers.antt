use Rattle.ocp_debug.specs.declared.trace.TheConstants.{TRACE_RECORDS}
use Rattle.ocp_debug.proofs.Keeping.{keep_last-keep_last}
use Rattle.ocp_debug.proofs.laws.keeping_is_kept_up.Goals as goal

pub returns : goal.returns
returns c old new = keep_last-keep_last TRACE_RECORDS old new
