use Rattle.std.proofs.Common.{rules, ◌≡◌, ◌<◌, ℕ, length, get_or, set, refl, sym, subst}
use Rattle.bpf_moves.specs.Moves.{operand_in}
use Rattle.bpf_values.specs.Value.{arithmetic_result}
use Rattle.bpf_step.specs.Machine.{state_after_write}
use Rattle.ocp_check.specs.declared.certificate.Node.{Node}
use Rattle.ocp_check.specs.Mirror.Fits.{Matches}
use Rattle.ocp_check.specs.Mirror.Forms.{AreFormed}
use Rattle.ocp_check.specs.Mirror.Ranges.{AreIn}
use Rattle.ocp_check.proofs.Kept.{changed, put_in, put_formed, restand}
use Rattle.ocp_check.proofs.steps.after_operation.Goals as goal

pub returns-clause-tied : goal.returns-clause-tied
returns-clause-tied c = λ bases registers i f.
    let l : length c.args.node.now.row ≡ 11 = search (rules, c) in
    let n : length c.args.node.now.forms ≡ 11 = search (rules, c) in
    let d : c.args.dst < 11 = search (rules, c) in
    let first = c.range_of-first.ensures.meaning registers i in
    let second = c.range_of_operand-second.ensures registers i in
    let v : ℕ = arithmetic_result c.args.width c.args.operation (get_or registers c.args.dst 0) (operand_in registers c.args.operand) in
    subst (λ (m : Node). AreIn m.row (set registers c.args.dst v) × AreFormed m.forms bases (set registers c.args.dst v)) (sym c.with_register.ensures) (
      put_in c.args.node.now.row registers c.args.dst v c.result_of-value.result l d i (c.result_of-value.ensures _ _ first second),
      put_formed c.args.node.now.forms bases registers c.args.dst v c.form_of_result-form.result n i.eleven d f
          (c.form_of_result-form.ensures bases _ _ first second (c.form_of-a.ensures bases registers f) (c.form_of_operand-b.ensures bases registers f)),
    )

pub returns-clause-stands : goal.returns-clause-stands
returns-clause-stands c = λ certificate s i.
    let v : ℕ = arithmetic_result c.args.width c.args.operation (get_or s.registers c.args.dst 0) (operand_in s.registers c.args.operand) in
    let t = returns-clause-tied c i.bases s.registers i.registers i.formed in
    subst (λ (m : Node). AreIn m.row (set s.registers c.args.dst v) × AreFormed m.forms i.bases (set s.registers c.args.dst v) → Matches certificate m (state_after_write s c.args.dst v 1)) (sym c.with_register.ensures)
    (λ t. restand certificate c.args.node.now (changed c.args.node.now c.args.dst c.result_of-value.result c.form_of_result-form.result) s (state_after_write s c.args.dst v 1) i refl refl refl refl refl refl refl t.0 t.1) t
