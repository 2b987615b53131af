use Rattle.ocp_regions.proofs.Cleared.{addresses_of}
use Rattle.ocp_regions.proofs.InOrder.{regions_of}
use Rattle.ocp_regions.proofs.laws.addresses_are_those_of_the_regions.Goals as goal

pub returns-clause-addresses : goal.returns-clause-addresses
returns-clause-addresses c = addresses_of

pub returns-clause-regions : goal.returns-clause-regions
returns-clause-regions c = regions_of
