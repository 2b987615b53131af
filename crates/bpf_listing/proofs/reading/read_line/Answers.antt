use Rattle.std.proofs.Common.{rules}
use Rattle.bpf_listing.proofs.reading.read_line.Goals as goal

pub returns-in-Ok-Some-clause-some : goal.returns-in-Ok-Some-clause-some
returns-in-Ok-Some-clause-some c = search rules
