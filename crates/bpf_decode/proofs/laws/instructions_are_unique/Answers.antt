use Rattle.bpf_decode.proofs.Only.{unique, no_fault}
use Rattle.bpf_decode.proofs.laws.instructions_are_unique.Goals as goal

pub returns-clause-one : goal.returns-clause-one
returns-clause-one c = unique

pub returns-clause-no_fault : goal.returns-clause-no_fault
returns-clause-no_fault c = no_fault
