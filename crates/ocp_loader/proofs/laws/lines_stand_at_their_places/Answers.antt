use Rattle.ocp_loader.proofs.Line.{line_is_at}
use Rattle.ocp_loader.proofs.laws.lines_stand_at_their_places.Goals as goal

pub returns : goal.returns
returns c = λ profile. line_is_at profile (c.faults_are_of_images_that_may_not_be_run.ensures.admitted profile)
