use Rattle.std.proofs.Common.{◌≡◌, ◌+◌, subst, arith}
use Rattle.bpf_types.specs.Line.{slots_in}
use Rattle.bpf_step.specs.Step.{step}
use Rattle.ocp_check.specs.Mirror.Fits.{LeadsTo}
use Rattle.ocp_check.proofs.Kept.{fits_led}
use Rattle.ocp_check.proofs.steps.is_kept_moving.Goals as goal

pub returns-then-is_inside : goal.returns-then-is_inside
returns-then-is_inside c = λ h s e i.
    let p : s.place + slots_in c.args.line.now ≡ c.from.result + c.from-2.result = omega (arith, e, c.from.ensures, c.from-2.ensures, c.slots.ensures.exact) in
    fits_led c.args.certificate.now (c.from.result + c.from-2.result) c.in-Some.after s (step c.args.line.now s) (c.covers.ensures h)
    (subst (λ n. LeadsTo c.args.certificate.now c.in-Some.after n (step c.args.line.now s)) p (c.in-Some.ensures c.args.certificate.now s i (c.is_inside.ensures c.if-is_inside.true s.registers i.registers)))
