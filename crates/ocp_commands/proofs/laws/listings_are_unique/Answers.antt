use Rattle.ocp_commands.proofs.OneOutput.{one_output}
use Rattle.ocp_commands.proofs.laws.listings_are_unique.Goals as goal

pub returns : goal.returns
returns c = let law = c.listings_and_faults_are_unique.ensures in one_output law.listing law.slots law.sound law.fault
