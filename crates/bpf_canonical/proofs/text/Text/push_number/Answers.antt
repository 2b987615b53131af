use Rattle.std.proofs.Common.{rules}
use Rattle.std.proofs.lemmas.Fmt.{decimal_digit}
use Rattle.bpf_canonical.proofs.text.Text.push_number.Goals as goal

pub returns-then-number-lt10-clause-items : goal.returns-then-number-lt10-clause-items
returns-then-number-lt10-clause-items g c = rw (decimal_digit c.args.number c.if-number-lt10.true) (search rules)
