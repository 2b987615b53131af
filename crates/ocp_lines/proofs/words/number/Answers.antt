use Rattle.std.proofs.Common.{arith, ◌∙◌}
use Rattle.ocp_lines.proofs.Numbers.{digit_too_great}
use Rattle.ocp_lines.proofs.words.number.Goals as goal

pub returns-in_err-checked_mul-clause-value : goal.returns-in_err-checked_mul-clause-value
returns-in_err-checked_mul-clause-value c =
    c.from_residual.ensures
    ∙ digit_too_great c.args.most c.args.word.now c.loop-octet.octet-index c.loop-octet.value (omega arith) c.loop-octet.invariant.value (omega (arith, c.in_err-checked_mul.ensures))

pub returns-in_err-value-clause-value : goal.returns-in_err-value-clause-value
returns-in_err-value-clause-value c =
    c.from_residual-in_err-value.ensures
    ∙ digit_too_great c.args.most c.args.word.now c.loop-octet.octet-index c.loop-octet.value (omega arith) c.loop-octet.invariant.value (omega (arith, c.in_err-value.ensures, c.in_ok-checked_mul.ensures))

pub returns-then-value-most-clause-value : goal.returns-then-value-most-clause-value
returns-then-value-most-clause-value c =
    digit_too_great c.args.most c.args.word.now c.loop-octet.octet-index c.loop-octet.value (omega arith) c.loop-octet.invariant.value (omega (arith, c.in_ok-value.ensures, c.in_ok-checked_mul.ensures))
