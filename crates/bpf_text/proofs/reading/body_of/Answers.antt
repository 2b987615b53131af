use Rattle.bpf_text.specs.Judged.{texts}
use Rattle.bpf_text.proofs.ReadingLemmas.{body_err, some_texts}
use Rattle.bpf_text.proofs.reading.body_of.Goals as goal

pub returns-in-Err : goal.returns-in-Err
returns-in-Err c = body_err (texts c.args.tokens.now) c.in-Err.fault (some_texts c.args.tokens.now c.is_empty.result c.is_empty.ensures c.if-is_empty.false) c.in-Err.ensures
