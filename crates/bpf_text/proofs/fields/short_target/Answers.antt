use Rattle.std.proofs.Common.{◌≡◌, ℤ, FitsSigned, true, false, sym, ◌∙◌}
use Rattle.std.proofs.lemmas.Result.{err_from_is_err_and}
use Rattle.std.specs.Int.{w16}
use Rattle.bpf_text.specs.Judged.{target_of}
use Rattle.bpf_text.proofs.FieldLemmas.{target_err}
use Rattle.bpf_text.proofs.fields.short_target.Goals as goal

pub returns-in_err-short_distance : goal.returns-in_err-short_distance
returns-in_err-short_distance c =
    let p = err_from_is_err_and c.from_residual.result c.from_residual.ensures.1 in
    rw (p.1, p.2) (target_err c.args.token.now (FitsSigned w16) c.in_err-short_distance.field-0.0 (λ h. let e = c.is_name.ensures.1 h in let bad : true ≡ false = sym e ∙ c.if-is_name.false in absurd cc) (λ (z : ℤ). z) c.in_err-short_distance.ensures target_of)
