use Rattle.std.proofs.Common.{rules, ◌≡◌, ◌+◌, to_z, of_z, w32, sym, subst, arith}
use Rattle.bpf_step.specs.Answers.{IsAnswer}
use Rattle.bpf_step.specs.Calls.{state_after_engine_call}
use Rattle.ocp_check.proofs.Kept.{covered}
use Rattle.ocp_check.proofs.steps.is_kept_calling.Goals as goal

pub returns : goal.returns
returns c = λ h s r0 r1 e i is.
    let same : to_z w32 (of_z w32 c.args.number) ≡ c.args.number = search (rules, c.ranges.number.sfits) in
    let p : s.place + 1 ≡ c.from.result + 1 = omega (arith, e, c.from.ensures) in
    covered c.args.certificate.now (c.from.result + 1) c.after_engine_call.result (state_after_engine_call s r0 r1) (c.covers.ensures h) p
    (c.after_engine_call.ensures c.args.certificate.now s r0 r1 i (subst (λ n. IsAnswer n r0 r1) (sym same) is))
