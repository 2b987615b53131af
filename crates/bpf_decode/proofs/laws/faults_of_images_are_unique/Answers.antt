use Rattle.bpf_decode.proofs.Images.{no_lines, one_fault}
use Rattle.bpf_decode.proofs.laws.faults_of_images_are_unique.Goals as goal

pub returns-clause-none : goal.returns-clause-none
returns-clause-none c = no_lines

pub returns-clause-one : goal.returns-clause-one
returns-clause-one c = one_fault
