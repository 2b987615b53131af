use Rattle.std.proofs.Common.{◌<◌, arith, sym, ◌∙◌}
use Rattle.ocp_lines.proofs.Hexadecimals.{has_room, no_digit}
use Rattle.ocp_lines.proofs.words.hexadecimal.Goals as goal

pub overflow_mul-value : goal.overflow_mul-value
overflow_mul-value c =
    let few : c.loop-octet.octet-index < 16 = omega (arith, c.loop-octet-test.true, c.requires) in
    omega (arith, has_room c.loop-octet.value c.loop-octet.octet-index c.loop-octet.invariant.bound few)

pub overflow_add-value : goal.overflow_add-value
overflow_add-value c =
    let few : c.loop-octet.octet-index < 16 = omega (arith, c.loop-octet-test.true, c.requires) in
    omega (arith, c.from.ensures, c.in_ok-digit.ensures.bound, has_room c.loop-octet.value c.loop-octet.octet-index c.loop-octet.invariant.bound few)

pub returns-in_err-digit : goal.returns-in_err-digit
returns-in_err-digit c =
    c.from_residual.ensures
    ∙ sym (no_digit c.args.digits.now c.loop-octet.octet-index c.loop-octet.value c.loop-octet-test.true c.loop-octet.invariant.value (sym c.in_err-digit.ensures.value))
