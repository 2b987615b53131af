use Rattle.ocp_regions.proofs.InOrder.{octets_of_regions, octets_of_profile, made_again}
use Rattle.ocp_regions.proofs.laws.memories_are_their_octets.Goals as goal

pub returns-clause-order : goal.returns-clause-order
returns-clause-order c = octets_of_regions

pub returns-clause-len : goal.returns-clause-len
returns-clause-len c = octets_of_profile

pub returns-clause-again : goal.returns-clause-again
returns-clause-again c = made_again
