use Rattle.std.proofs.Common.{◌≡◌, ℤ, FitsSigned, true, false, sym, ◌∙◌}
use Rattle.std.proofs.lemmas.Result.{err_from_is_err_and}
use Rattle.std.specs.Int.{w32}
use Rattle.bpf_text.specs.Judged.{target_of}
use Rattle.bpf_text.proofs.FieldLemmas.{target_err}
use Rattle.bpf_text.proofs.fields.long_target.Goals as goal

pub returns-in_err-long_distance : goal.returns-in_err-long_distance
returns-in_err-long_distance c =
    let p = err_from_is_err_and c.from_residual.result c.from_residual.ensures.1 in
    rw (p.1, p.2) (target_err c.args.token.now (FitsSigned w32) c.in_err-long_distance.field-0.0 (λ h. let e = c.is_name.ensures.1 h in let bad : true ≡ false = sym e ∙ c.if-is_name.false in absurd cc) (λ (z : ℤ). z) c.in_err-long_distance.ensures target_of)
