use Rattle.ocp_world.proofs.Alike.{stay_alike, resumed_alike}
use Rattle.ocp_world.proofs.laws.resumed_worlds_answer_alike.Goals as goal

pub returns-clause-alike : goal.returns-clause-alike
returns-clause-alike c = stay_alike

pub returns-clause-resumed : goal.returns-clause-resumed
returns-clause-resumed c = resumed_alike
