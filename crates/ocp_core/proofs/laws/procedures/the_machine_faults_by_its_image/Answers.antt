use Rattle.ocp_core.proofs.Possible.{faults_of_machine, faults_are_answered}
use Rattle.ocp_core.proofs.laws.procedures.the_machine_faults_by_its_image.Goals as goal

pub returns : goal.returns
returns c = record { fault = faults_of_machine; answer = faults_are_answered }
