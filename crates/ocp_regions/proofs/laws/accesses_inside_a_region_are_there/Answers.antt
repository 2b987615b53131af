use Rattle.ocp_regions.proofs.Accesses.{load_there, store_there}
use Rattle.ocp_regions.proofs.laws.accesses_inside_a_region_are_there.Goals as goal

pub returns-clause-load : goal.returns-clause-load
returns-clause-load c = load_there

pub returns-clause-store : goal.returns-clause-store
returns-clause-store c = store_there
