use Rattle.std.proofs.Common.{rules}
use Rattle.bpf_canonical.proofs.Digits.{encoded}
use Rattle.bpf_canonical.proofs.text.Text.push_hex.Goals as goal

pub returns-clause-items : goal.returns-clause-items
returns-clause-items g c = let digits = encoded c.args.number in search (rules, digits)
