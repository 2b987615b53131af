use Rattle.bpf_assembler.proofs.UniqueTexts.{fault_of_meaning, meaning_or_fault}
use Rattle.bpf_assembler.proofs.laws.meanings_exclude_faults.Goals as goal

pub returns-clause-image : goal.returns-clause-image
returns-clause-image c = λ profile. fault_of_meaning profile c.readings_are_unique.ensures

pub returns-clause-admitted : goal.returns-clause-admitted
returns-clause-admitted c = λ profile. meaning_or_fault profile c.readings_are_unique.ensures (c.faults_are_of_images_that_may_not_be_run.ensures.refused profile)
