use Rattle.bpf_assembler.proofs.UniqueTexts.{one_fault}
use Rattle.bpf_assembler.proofs.laws.faults_are_unique.Goals as goal

pub returns : goal.returns
returns c = λ profile. one_fault profile c.readings_are_unique.ensures
