use Rattle.std.proofs.Common.{rules, ◌≡◌, length, to_z, of_z, w32, None, sym, subst, ap, ◌∙◌}
use Rattle.bpf_step.specs.Answers.{IsAnswer}
use Rattle.bpf_step.specs.Calls.{state_after_engine_call}
use Rattle.ocp_check.specs.declared.certificate.Node.{Node}
use Rattle.ocp_check.specs.Mirror.Fits.{Matches}
use Rattle.ocp_check.proofs.Kept.{answered, answered_r0, changed}
use Rattle.ocp_check.proofs.answers.after_engine_call.Goals as goal

pub returns-then-may_write_r1 : goal.returns-then-may_write_r1
returns-then-may_write_r1 c = λ certificate s r0 r1 i is.
    let l : length c.args.node.now.row ≡ 11 = search (rules, c) in
    let n : length c.args.node.now.forms ≡ 11 = search (rules, c) in
    let same : to_z w32 (of_z w32 c.args.number) ≡ c.args.number = search (rules, c.ranges.number.sfits) in
    let first : c.with_register-answered.result ≡ changed c.args.node.now 0 c.r0_after.result None = c.with_register-answered.ensures ∙ ap (λ k. changed c.args.node.now k c.r0_after.result None) c.zero.ensures in
    let both : c.with_register.result ≡ changed (changed c.args.node.now 0 c.r0_after.result None) 1 None None =
    c.with_register.ensures ∙ ap (λ k. changed c.with_register-answered.result k None None) c.one.ensures ∙ ap (λ (m : Node). changed m 1 None None) first in
    subst (λ (m : Node). Matches certificate m (state_after_engine_call s r0 r1)) (sym both)
    (answered certificate c.args.node.now s r0 r1 c.r0_after.result l n i (c.r0_after.ensures r0 r1 (subst (λ z. IsAnswer z r0 r1) (sym same) is)))

pub returns-else-may_write_r1 : goal.returns-else-may_write_r1
returns-else-may_write_r1 c = λ certificate s r0 r1 i is.
    let l : length c.args.node.now.row ≡ 11 = search (rules, c) in
    let n : length c.args.node.now.forms ≡ 11 = search (rules, c) in
    let same : to_z w32 (of_z w32 c.args.number) ≡ c.args.number = search (rules, c.ranges.number.sfits) in
    let answer : IsAnswer (to_z w32 (of_z w32 c.args.number)) r0 r1 = subst (λ z. IsAnswer z r0 r1) (sym same) is in
    let first : c.with_register-answered.result ≡ changed c.args.node.now 0 c.r0_after.result None = c.with_register-answered.ensures ∙ ap (λ k. changed c.args.node.now k c.r0_after.result None) c.zero.ensures in
    subst (λ (m : Node). Matches certificate m (state_after_engine_call s r0 r1)) (sym first)
    (answered_r0 certificate c.args.node.now s r0 r1 c.r0_after.result l n i (c.r0_after.ensures r0 r1 answer) (answer.keeps (c.may_write_r1.ensures.other c.if-may_write_r1.false)))
