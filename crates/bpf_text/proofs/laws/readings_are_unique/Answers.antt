use Rattle.bpf_text.proofs.UniqueLines.{one_written}
use Rattle.bpf_text.proofs.laws.readings_are_unique.Goals as goal

pub returns : goal.returns
returns c = one_written c.mnemonics_are_unique.ensures
