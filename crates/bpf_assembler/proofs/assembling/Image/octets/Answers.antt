use Rattle.std.proofs.Common.{rules}
use Rattle.bpf_assembler.proofs.assembling.Image.octets.Goals as goal

pub returns-clause-value : goal.returns-clause-value
returns-clause-value g c = search rules

pub returns-clause-admitted : goal.returns-clause-admitted
returns-clause-admitted g c = search rules
