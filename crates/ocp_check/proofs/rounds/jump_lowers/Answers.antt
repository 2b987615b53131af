use Rattle.std.proofs.Common.{refl, sym, ap, ◌∙◌}
use Rattle.bpf_step.specs.Machine.{place_by, state_after_jump}
use Rattle.ocp_check.proofs.Counted.{moved_kept}
use Rattle.ocp_check.proofs.Falls.{falls_next}
use Rattle.ocp_check.proofs.rounds.jump_lowers.Goals as goal

pub returns-in-Some : goal.returns-in-Some
returns-in-Some c = λ h s most e i a f.
    falls_next c.args.all.now.ranks.now c.args.all.now.counters.now most s (state_after_jump s c.args.distance) refl
    (c.lowers.ensures h s (state_after_jump s c.args.distance) e i (ap (λ n. place_by n c.args.distance) e ∙ sym c.in-Some.ensures) f (moved_kept s.registers s.registers refl)) a
