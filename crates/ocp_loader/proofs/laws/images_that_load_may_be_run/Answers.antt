use Rattle.ocp_loader.proofs.Loaded.{may_run}
use Rattle.ocp_loader.proofs.laws.images_that_load_may_be_run.Goals as goal

pub returns : goal.returns
returns c = λ profile. may_run profile c.instructions_are_decoded.ensures c.writes_of_the_frame_pointer_are_refused.ensures
