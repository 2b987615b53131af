use Rattle.std.proofs.Common.{rules, ◌≡◌, to_z, of_z, w32, Some, sym, subst}
use Rattle.bpf_step.specs.Machine.{Next, state_after_jump}
use Rattle.ocp_check.specs.Mirror.Fits.{Fits}
use Rattle.ocp_check.specs.Mirror.Ranks.{Falls}
use Rattle.ocp_check.proofs.Falls.{falls_either}
use Rattle.ocp_check.proofs.rounds.branch_lowers.Goals as goal

pub returns-then-jump_lowers : goal.returns-then-jump_lowers
returns-then-jump_lowers c = λ h s most taken e i a f.
    let same : to_z w32 (of_z w32 c.args.distance) ≡ c.args.distance = search (rules, c.ranges.distance.sfits) in
    falls_either c.args.all.now.ranks.now c.args.all.now.counters.now c.args.all.now.nodes.now most s taken c.args.distance
    (λ j. subst (λ z. Falls c.args.all.now.ranks.now c.args.all.now.counters.now most s (Next (state_after_jump s (Some z)))) same
    (c.jump_lowers.ensures c.if-jump_lowers.true s most e i a (subst (λ z. Fits c.args.all.now.nodes.now (state_after_jump s (Some z))) (sym same) j)))
    (λ j. c.jump_lowers-then-jump_lowers.ensures h s most e i a j) f
