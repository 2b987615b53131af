use Rattle.bpf_assembler.proofs.UniqueTexts.{one_meaning}
use Rattle.bpf_assembler.proofs.laws.meanings_are_unique.Goals as goal

pub returns : goal.returns
returns c = one_meaning c.readings_are_unique.ensures
