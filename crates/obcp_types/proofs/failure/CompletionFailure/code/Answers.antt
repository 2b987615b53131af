use Rattle.std.proofs.Common.{rules}
use Rattle.obcp_types.proofs.failure.CompletionFailure.code.Goals as goal

pub returns : goal.returns
returns c = search rules
