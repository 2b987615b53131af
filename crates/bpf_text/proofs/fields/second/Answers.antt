use Rattle.std.proofs.Common.{ℤ}
use Rattle.std.proofs.lemmas.Result.{err_from_is_err_and}
use Rattle.bpf_types.specs.declared.line.Operand.{Operand}
use Rattle.bpf_text.proofs.FieldLemmas.{second_err}
use Rattle.bpf_text.proofs.fields.second.Goals as goal

pub returns-in_err-immediate-in-None : goal.returns-in_err-immediate-in-None
returns-in_err-immediate-in-None c =
    let p = err_from_is_err_and c.from_residual.result c.from_residual.ensures.1 in
    rw (p.1, p.2) (second_err c.args.token.now c.in_err-immediate-in-None.field-0.0 c.in-None.ensures.none (λ (z : ℤ). z) c.in_err-immediate-in-None.ensures (λ (o : Operand). o))
