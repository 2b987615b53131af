use Rattle.std.proofs.Common.{◌≡◌, ◌-◌, drop, take, length, get_or, arith, inl, inr, refl, ℕ, ℤ, pos, ◌-ℤ◌, to_z, of_z}
use Rattle.std.specs.Int.{w128}
use Rattle.std.proofs.lemmas.Int.{ints}
use Rattle.std.proofs.lemmas.Result.{err_from_is_err_and}
use Rattle.bpf_text.proofs.FieldLemmas.{front_rest, distance_err}
use Rattle.bpf_text.proofs.fields.distance.Goals as goal

pub returns-in_err-numeral-in-43 : goal.returns-in_err-numeral-in-43
returns-in_err-numeral-in-43 c =
    let t = c.args.token.now in
    let first : get_or t 0 0 ≡ 43 = omega arith in
    let p = err_from_is_err_and c.from_residual.result c.from_residual.ensures.1 in
    rw (p.1, p.2) (distance_err t (take (length t - 1) (drop 1 t)) 43 c.in_err-numeral-in-43.field-0.0 (front_rest t 43 c.in-43.len_at_least first) (inl refl) (λ (n : ℕ). n) c.in_err-numeral-in-43.ensures (λ (z : ℤ). z))

pub returns-in_err-numeral-in-45 : goal.returns-in_err-numeral-in-45
returns-in_err-numeral-in-45 c =
    let t = c.args.token.now in
    let first : get_or t 0 0 ≡ 45 = omega arith in
    let p = err_from_is_err_and c.from_residual-in_err-numeral-in-45.result c.from_residual-in_err-numeral-in-45.ensures.1 in
    rw (p.1, p.2) (distance_err t (take (length t - 1) (drop 1 t)) 45 c.in_err-numeral-in-45.field-0.0 (front_rest t 45 c.in-45.len_at_least first) (inr refl) (λ (n : ℕ). n) c.in_err-numeral-in-45.ensures (λ (z : ℤ). z))

pub returns-in_ok-numeral-in-43 : goal.returns-in_ok-numeral-in-43
returns-in_ok-numeral-in-43 c =
    let t = c.args.token.now in
    let n = c.in_ok-numeral-in-43.field-0 in
    let first : get_or t 0 0 ≡ 43 = omega arith in
    let is = c.in_ok-numeral-in-43.ensures in
    let z : to_z w128 (of_z w128 c.from.result) ≡ pos n = omega (arith, ints, is.1, c.from.ensures) in
    ((take (length t - 1) (drop 1 t), n, is.0, inl (front_rest t 43 c.in-43.len_at_least first, z)), (n, is.1, inl z))

pub returns-in_ok-numeral-in-45 : goal.returns-in_ok-numeral-in-45
returns-in_ok-numeral-in-45 c =
    let t = c.args.token.now in
    let n = c.in_ok-numeral-in-45.field-0 in
    let first : get_or t 0 0 ≡ 45 = omega arith in
    let is = c.in_ok-numeral-in-45.ensures in
    let z : to_z w128 (of_z w128 (pos 0 -ℤ to_z w128 (of_z w128 c.from-in-45.result))) ≡ pos 0 -ℤ pos n = omega (arith, ints, is.1, c.from-in-45.ensures) in
    ((take (length t - 1) (drop 1 t), n, is.0, inr (front_rest t 45 c.in-45.len_at_least first, z)), (n, is.1, inr z))
