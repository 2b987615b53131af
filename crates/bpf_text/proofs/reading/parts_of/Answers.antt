use Rattle.std.proofs.Common.{subst, Err}
use Rattle.bpf_text.specs.Judged.{texts, JudgesBody}
use Rattle.bpf_text.proofs.ReadingLemmas.{labelled_err, plain_err}
use Rattle.bpf_text.proofs.reading.parts_of.Goals as goal
use Rattle.bpf_text.proofs.reading.parts_of.Goals.{in-Some, in-None}

pub returns-in-Err : goal.returns-in-Err
returns-in-Err c = elim c.match-label_of.branch [
  | in-Some w ↦ labelled_err (texts c.args.tokens.now) (texts w.in-Some.rest.now) w.in-Some.name.now c.in-Err.fault w.in-Some.ensures.some (w.is_name.ensures.0 w.if-is_name.true) (subst (λ t. JudgesBody (texts t.1.now) (Err c.in-Err.fault)) w.t-10-is c.in-Err.ensures)
  | in-None w ↦ plain_err (texts c.args.tokens.now) c.in-Err.fault w.in-None.ensures.none (subst (λ t. JudgesBody (texts t.1.now) (Err c.in-Err.fault)) w.t-10-is c.in-Err.ensures)
]
