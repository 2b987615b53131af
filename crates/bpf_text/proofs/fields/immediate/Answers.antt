use Rattle.std.proofs.Common.{ℤ, ap, sym, subst, ◌∙◌, to_z, of_z, to_z-of_z, SFits, FitsSigned, rules}
use Rattle.std.specs.Int.{w32, w128}
use Rattle.bpf_text.specs.Fields.{as_signed}
use Rattle.std.proofs.lemmas.Result.{err_from_is_err_and}
use Rattle.bpf_text.proofs.FieldLemmas.{immediate_err, immediate_ok}
use Rattle.bpf_text.proofs.fields.immediate.Goals as goal

pub returns-in_err-integer : goal.returns-in_err-integer
returns-in_err-integer c =
    let p = err_from_is_err_and c.from_residual.result c.from_residual.ensures.1 in
    rw (p.1, p.2) (immediate_err c.args.token.now c.in_err-integer.field-0.0 (λ (z : ℤ). z) c.in_err-integer.ensures (λ (z : ℤ). z))

pub returns-in-Ok : goal.returns-in-Ok
returns-in-Ok c =
    let a : SFits w128 c.as_signed.result = search rules in
    let b : SFits w128 c.in_ok-integer.field-0 = search rules in
    let i : SFits w32 c.in-Ok.immediate = search rules in
    immediate_ok c.args.token.now c.in_ok-integer.field-0 c.as_signed.result (to_z w32 (of_z w32 c.in-Ok.immediate)) c.in_ok-integer.ensures.0 (c.as_signed.ensures ∙ ap as_signed (to_z-of_z b)) (subst (FitsSigned w32) (to_z-of_z a) c.in-Ok.ensures.0) (to_z-of_z i ∙ c.in-Ok.ensures.1 ∙ to_z-of_z a)

pub returns-in-Err : goal.returns-in-Err
returns-in-Err c =
    let a : SFits w128 c.as_signed.result = search rules in
    let b : SFits w128 c.in_ok-integer.field-0 = search rules in
    (c.as_signed.result, (c.in_ok-integer.field-0, c.in_ok-integer.ensures.0, c.as_signed.ensures ∙ ap as_signed (to_z-of_z b)), λ m. c.in-Err.ensures (subst (FitsSigned w32) (sym (to_z-of_z a)) m))
