use Rattle.ocp_loader.proofs.Line.{begins_admitted}
use Rattle.ocp_loader.proofs.laws.images_begin_with_an_instruction.Goals as goal

pub returns : goal.returns
returns c = λ profile. begins_admitted profile (c.faults_are_of_images_that_may_not_be_run.ensures.admitted profile)
