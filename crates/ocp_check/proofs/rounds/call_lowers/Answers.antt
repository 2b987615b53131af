use Rattle.std.proofs.Common.{◌≡◌, ◌+◌, arith}
use Rattle.bpf_step.specs.Calls.{state_after_engine_call}
use Rattle.ocp_check.proofs.Falls.{falls_call}
use Rattle.ocp_check.proofs.rounds.call_lowers.Goals as goal

pub returns-else-number-eq-STEP_END : goal.returns-else-number-eq-STEP_END
returns-else-number-eq-STEP_END c = λ h s e i a f.
    let p : s.place + 1 ≡ c.from-next.result + 1 = omega (arith, e, c.from-next.ensures) in
    falls_call c.args.all.now.ranks.now c.args.all.now.counters.now c.args.most s c.args.number
    (λ r0 r1 is. c.lowers.ensures h s (state_after_engine_call s r0 r1) e i p (f r0 r1 is) (c.steps_of_call.ensures s.registers r0 r1 i.registers.eleven))
