use Rattle.std.proofs.Common.{rules}
use Rattle.bpf_canonical.proofs.writing.line_text.Goals as goal

pub returns-clause-ok : goal.returns-clause-ok
returns-clause-ok g c = search rules
