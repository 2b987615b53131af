use Rattle.std.proofs.Common.{rules, ◌≡◌, ◌<◌, ◌+◌, refl, sym, subst, set, arith}
use Rattle.bpf_step.specs.Machine.{state_after_write}
use Rattle.ocp_check.specs.Mirror.Ranks.{AreMoved}
use Rattle.ocp_check.proofs.Counted.{moved_with}
use Rattle.ocp_check.proofs.Falls.{falls_next}
use Rattle.ocp_check.proofs.rounds.write_lowers.Goals as goal

pub returns-then-slots-le2 : goal.returns-then-slots-le2
returns-then-slots-le2 c = λ h s most v e i a m f.
    let d : c.args.dst < 11 = search (rules, c) in
    let p : s.place + c.args.slots ≡ c.from.result + c.from-then-slots-le2.result = omega (arith, e, c.from.ensures, c.from-then-slots-le2.ensures) in
    falls_next c.args.all.now.ranks.now c.args.all.now.counters.now most s (state_after_write s c.args.dst v c.args.slots) refl
    (c.lowers.ensures h s (state_after_write s c.args.dst v c.args.slots) e i p f
    (subst (λ steps. AreMoved steps s.registers (set s.registers c.args.dst v)) (sym c.steps_with.ensures) (moved_with s.registers c.args.dst v c.args.step i.registers.eleven d m))) a
