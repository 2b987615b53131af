use Rattle.std.proofs.Common.{get_or, sym, ◌∙◌}
use Rattle.bpf_moves.specs.Moves.{operand_in}
use Rattle.bpf_values.specs.Value.{arithmetic_result}
use Rattle.ocp_check.specs.Mirror.Ranks.{IsMoved}
use Rattle.ocp_check.proofs.Falls.{same_arithmetic}
use Rattle.ocp_check.proofs.rounds.step_of_line.Goals as goal

pub returns : goal.returns
returns c = λ certificate s width operation dst operand is i.
    same_arithmetic (λ w o r p. IsMoved c.step_by.result (get_or s.registers r 0) (arithmetic_result w o (get_or s.registers r 0) (operand_in s.registers p))) (sym c.in-Arithmetic.is ∙ is)
    (c.step_by.ensures certificate s i)
