use Rattle.std.proofs.Common.{◌≡◌, ◌-◌, drop, take, length, get_or, arith, inl, inr, ℕ, ℤ, pos, ◌-ℤ◌, to_z, of_z}
use Rattle.std.specs.Int.{w128}
use Rattle.std.proofs.lemmas.Int.{ints}
use Rattle.std.proofs.lemmas.Result.{err_from_is_err_and}
use Rattle.bpf_text.proofs.FieldLemmas.{front_rest, no_integer, minus_err, plain_err}
use Rattle.bpf_text.proofs.fields.integer.Goals as goal

pub returns-in_err-numeral-in-45 : goal.returns-in_err-numeral-in-45
returns-in_err-numeral-in-45 c =
    let t = c.args.token.now in
    let first : get_or t 0 0 ≡ 45 = omega arith in
    let p = err_from_is_err_and c.from_residual.result c.from_residual.ensures.1 in
    rw (p.1, p.2) (minus_err t (take (length t - 1) (drop 1 t)) c.in_err-numeral-in-45.field-0.0 (front_rest t 45 c.in-45.len_at_least first) (λ (n : ℕ). n) c.in_err-numeral-in-45.ensures (λ (z : ℤ). z))

pub returns-in_err-numeral-in_default : goal.returns-in_err-numeral-in_default
returns-in_err-numeral-in_default c =
    let p = err_from_is_err_and c.from_residual-in_err-numeral-in_default.result c.from_residual-in_err-numeral-in_default.ensures.1 in
    rw (p.1, p.2) (plain_err c.args.token.now c.in_err-numeral-in_default.field-0.0 (λ e. omega arith) (λ (n : ℕ). n) c.in_err-numeral-in_default.ensures (λ (z : ℤ). z))

pub returns-in-empty : goal.returns-in-empty
returns-in-empty c = no_integer c.args.token.now c.in-empty.len_below

pub returns-in_ok-numeral-in-45 : goal.returns-in_ok-numeral-in-45
returns-in_ok-numeral-in-45 c =
    let t = c.args.token.now in
    let n = c.in_ok-numeral-in-45.field-0 in
    let first : get_or t 0 0 ≡ 45 = omega arith in
    let is = c.in_ok-numeral-in-45.ensures in
    let z : to_z w128 (of_z w128 (pos 0 -ℤ to_z w128 (of_z w128 c.from.result))) ≡ pos 0 -ℤ pos n = omega (arith, ints, is.1, c.from.ensures) in
    (inr (take (length t - 1) (drop 1 t), n, front_rest t 45 c.in-45.len_at_least first, is.0, z), (n, is.1, inr z))

pub returns-in_ok-numeral-in_default : goal.returns-in_ok-numeral-in_default
returns-in_ok-numeral-in_default c =
    let n = c.in_ok-numeral-in_default.field-0 in
    let is = c.in_ok-numeral-in_default.ensures in
    let z : to_z w128 (of_z w128 c.from-in_default.result) ≡ pos n = omega (arith, ints, is.1, c.from-in_default.ensures) in
    (inl (n, is.0, z), (n, is.1, inl z))
