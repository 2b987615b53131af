use Rattle.bpf_canonical.proofs.Unique.{one_mnemonic}
use Rattle.bpf_canonical.proofs.laws.mnemonics_are_unique.Goals as goal

pub returns : goal.returns
returns c = one_mnemonic
