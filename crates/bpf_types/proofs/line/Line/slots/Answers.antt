use Rattle.std.proofs.Common.{rules}
use Rattle.bpf_types.proofs.line.Line.slots.Goals as goal

pub returns-in-LoadWide-clause-exact : goal.returns-in-LoadWide-clause-exact
returns-in-LoadWide-clause-exact c = search rules

pub returns-in-LoadWide-clause-octets : goal.returns-in-LoadWide-clause-octets
returns-in-LoadWide-clause-octets c = search rules
