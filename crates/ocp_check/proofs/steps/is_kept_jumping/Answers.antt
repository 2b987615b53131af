use Rattle.std.proofs.Common.{refl, sym, ◌∙◌, ap}
use Rattle.bpf_step.specs.Machine.{place_by, state_after_jump}
use Rattle.ocp_check.proofs.Kept.{fits_jump}
use Rattle.ocp_check.proofs.steps.is_kept_jumping.Goals as goal

pub returns-in-Some : goal.returns-in-Some
returns-in-Some c = λ h s e i k.
    fits_jump c.args.certificate.now c.in-Some.place c.with_known.result s (state_after_jump s c.args.distance)
    (c.covers.ensures h) (ap (λ n. place_by n c.args.distance) e ∙ sym c.in-Some.ensures) refl refl refl (c.with_known.ensures c.args.certificate.now s i k)
