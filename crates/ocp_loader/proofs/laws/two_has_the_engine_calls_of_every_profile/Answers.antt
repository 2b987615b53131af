use Rattle.ocp_loader.proofs.Stay.{engine_call}
use Rattle.ocp_loader.proofs.Sound.{admitted_by_two}
use Rattle.ocp_loader.proofs.laws.two_has_the_engine_calls_of_every_profile.Goals as goal

pub returns-clause-numbers : goal.returns-clause-numbers
returns-clause-numbers c = engine_call

pub returns-clause-images : goal.returns-clause-images
returns-clause-images c = admitted_by_two
