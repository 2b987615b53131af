use Rattle.ocp_world.proofs.Settling.{world_of_run, answers_alone}
use Rattle.ocp_world.proofs.settle.instructions_done_alone_are_events.Goals as goal

pub returns-clause-world : goal.returns-clause-world
returns-clause-world c w by id n r machine alone = world_of_run w by id r n machine alone

pub returns-clause-answers : goal.returns-clause-answers
returns-clause-answers c w by id n r machine alone = answers_alone w by id r n machine alone
