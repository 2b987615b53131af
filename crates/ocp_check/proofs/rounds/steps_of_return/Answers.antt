use Rattle.ocp_check.proofs.Counted.{moved_to_frame}
use Rattle.ocp_check.proofs.rounds.steps_of_return.Goals as goal

pub returns : goal.returns
returns c = moved_to_frame
