use Rattle.ocp_loader.proofs.Stay.{agreement}
use Rattle.ocp_loader.proofs.Line.{begins}
use Rattle.ocp_loader.proofs.laws.lines_agree_with_the_load_result.Goals as goal

pub returns-clause-agree : goal.returns-clause-agree
returns-clause-agree c = agreement

pub returns-clause-begins : goal.returns-clause-begins
returns-clause-begins c = begins
