use Rattle.std.proofs.Common.{rules, ◌≡◌, to_z, of_z, w32, w16, FitsSigned, sym, subst, Some, arith}
use Rattle.std.proofs.lemmas.Int.{ints}
use Rattle.bpf_types.specs.declared.line.Line.{Line}
use Rattle.bpf_step.specs.Machine.{state_after_jump}
use Rattle.bpf_step.specs.Step.{step}
use Rattle.ocp_check.specs.Mirror.Fits.{Fits, FitsAfter}
use Rattle.ocp_check.proofs.Kept.{fits_either}
use Rattle.ocp_check.proofs.steps.is_kept_branching.Goals as goal

pub returns-then-is_kept_jumping : goal.returns-then-is_kept_jumping
returns-then-is_kept_jumping c = λ h s e i.
    let is = c.in-JumpIf.is in
    let d : FitsSigned w16 c.in-JumpIf.distance = search (rules, c) in
    let same : to_z w32 (of_z w32 c.from-distance.result) ≡ c.in-JumpIf.distance = omega (arith, ints, c.from-distance.ensures) in
    subst (λ (l : Line). FitsAfter c.args.certificate.now s (step l s)) (sym is)
    (fits_either c.args.certificate.now s _ c.in-JumpIf.distance
    (λ t. subst (λ z. Fits c.args.certificate.now (state_after_jump s (Some z))) same (c.is_kept_jumping.ensures c.if-is_kept_jumping.true s e i (c.range_by_test-taken.ensures _ _ _ _ _ s.registers is i.registers t)))
    (λ t. c.is_kept_jumping-then-is_kept_jumping.ensures h s e i (c.range_by_test-passed.ensures _ _ _ _ _ s.registers is i.registers t)))
