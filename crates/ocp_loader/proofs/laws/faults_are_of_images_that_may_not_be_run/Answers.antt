use Rattle.ocp_loader.proofs.Complete.{complete, not_admitted}
use Rattle.ocp_loader.proofs.laws.faults_are_of_images_that_may_not_be_run.Goals as goal

pub returns-clause-admitted : goal.returns-clause-admitted
returns-clause-admitted c = λ profile. complete profile c.instructions_are_decoded.ensures

pub returns-clause-refused : goal.returns-clause-refused
returns-clause-refused c = λ profile. not_admitted profile c.instructions_are_decoded.ensures
