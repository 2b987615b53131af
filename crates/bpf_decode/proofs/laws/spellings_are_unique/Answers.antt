use Rattle.std.proofs.Common.{[], append-nil, sym, ◌∙◌}
use Rattle.bpf_decode.proofs.Only.{unique}
use Rattle.bpf_decode.proofs.laws.spellings_are_unique.Goals as goal

pub returns-clause-one_line : goal.returns-clause-one_line
returns-clause-one_line c = λ octets a b p q. unique octets a b (p.0, [], p.1 ∙ sym (append-nil _)) (q.0, [], q.1 ∙ sym (append-nil _))
