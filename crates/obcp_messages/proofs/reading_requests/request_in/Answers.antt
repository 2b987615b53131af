use Rattle.std.proofs.Common.{arith}
use Rattle.std.proofs.lemmas.Grind.{common_steps}
use Rattle.obcp_messages.proofs.reading_requests.request_in.Goals as goal

pub returns-in-One : goal.returns-in-One
returns-in-One c = grind (arith, common_steps)
