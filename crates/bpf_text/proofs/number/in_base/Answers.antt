use Rattle.std.proofs.lemmas.Str.{IsUtf8-from_ascii}
use Rattle.bpf_text.proofs.Numbers.{digits_are_ascii}
use Rattle.bpf_text.proofs.number.in_base.Goals as goal

pub returns-in-Err : goal.returns-in-Err
returns-in-Err c = λ n h. absurd (c.in-Err.ensures.cases.0 (IsUtf8-from_ascii c.args.octets.now (digits_are_ascii c.args.base c.args.octets.now c.requires.high h.0.1)))
