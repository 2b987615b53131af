use Rattle.std.proofs.Common.{rules, ◌<◌, ℕ, List, get_or, set, subst, arith}
use Rattle.std.proofs.lemmas.List.{get_or-set_same}
use Rattle.bpf_moves.specs.Moves.{operand_in}
use Rattle.bpf_values.specs.Value.{arithmetic_result}
use Rattle.ocp_check.specs.Mirror.Ranks.{IsMoved}
use Rattle.ocp_check.proofs.rounds.step_by.Goals as goal

pub returns : goal.returns
returns c = λ certificate s i.
    let j = c.with_base-based.ensures certificate s i in
    let d : c.args.dst < 11 = search (rules, c) in
    let t = c.after_operation-after.ensures.tied j.bases s.registers j.registers j.formed in
    let v : ℕ = arithmetic_result c.args.width c.args.operation (get_or s.registers c.args.dst 0) (operand_in s.registers c.args.operand) in
    let next : List ℕ = set s.registers c.args.dst v in
    subst (IsMoved c.step_between.result (get_or s.registers c.args.dst 0)) (get_or-set_same s.registers c.args.dst v 0 (omega (arith, d, j.registers.eleven)))
    (c.step_between.ensures j.bases (get_or s.registers c.args.dst 0) (get_or next c.args.dst 0) (c.tie_of.ensures j.bases s.registers j.registers j.formed) (c.tie_of-2.ensures j.bases next t.0 t.1) (c.range_of.ensures.meaning next t.0))
