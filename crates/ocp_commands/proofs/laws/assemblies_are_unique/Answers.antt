use Rattle.ocp_commands.proofs.OneImage.{one_assembly}
use Rattle.ocp_commands.proofs.laws.assemblies_are_unique.Goals as goal

pub returns : goal.returns
returns c = λ profile. one_assembly profile c.meanings_are_unique.ensures (c.faults_are_unique.ensures profile) (c.meanings_exclude_faults.ensures.admitted profile)
