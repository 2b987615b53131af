use Rattle.std.proofs.Common.{rules}
use Rattle.ocp_commands.proofs.assembling.asm.Goals as goal

pub returns-in_err-input-clause-read : goal.returns-in_err-input-clause-read
returns-in_err-input-clause-read g c = search rules
