use Rattle.std.proofs.Common.{arith}
use Rattle.std.proofs.lemmas.Grind.{common_steps}
use Rattle.ocp_world.proofs.answers.discard_of.Goals as goal

pub returns-in-Err-Rejected-clause-cause : goal.returns-in-Err-Rejected-clause-cause
returns-in-Err-Rejected-clause-cause c = grind (arith, common_steps)

pub returns-in-Err-Rejected-clause-answer : goal.returns-in-Err-Rejected-clause-answer
returns-in-Err-Rejected-clause-answer c = grind (arith, common_steps)
