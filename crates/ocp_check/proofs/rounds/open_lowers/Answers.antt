use Rattle.std.proofs.Common.{rules, ◌≡◌, ◌≤◌, ◌<◌, ◌+◌, ◌-◌, to_z, of_z, w32, Some, sym, ap, subst, ◌∙◌, arith}
use Rattle.std.specs.Prelude.{slice_get}
use Rattle.std.proofs.lemmas.Bool.Decides.{nat_tests}
use Rattle.ocp_loader.specs.LineAt.{target}
use Rattle.bpf_step.specs.Calls.{state_after_call, frame_of}
use Rattle.ocp_check.specs.Mirror.Ranks.{IsSteady, total_share, registers_of, value_at}
use Rattle.ocp_check.proofs.Falls.{falls_local, value_is}
use Rattle.ocp_check.proofs.rounds.open_lowers.Goals as goal

pub returns-then-first-here : goal.returns-then-first-here
returns-then-first-here c = λ h s most e i a f.
    let same : to_z w32 (of_z w32 c.args.distance) ≡ c.args.distance = search (rules, c.ranges.distance.sfits) in
    let place : c.in-Some.place ≡ target s.place c.args.distance = c.in-Some.ensures ∙ ap (target c.args.slot) same ∙ ap (λ n. target n c.args.distance) (sym e) in
    let next : c.from-next.result + 1 ≡ s.place + 1 = omega (arith, e, c.from-next.ensures) in
    let here : slice_get c.args.all.now.ranks.now s.place ≡ Some c.in-Some-rank_at.here = ap (slice_get c.args.all.now.ranks.now) (e ∙ sym c.from.ensures) ∙ sym c.rank_at.ensures ∙ c.in-Some-rank_at.is in
    let value = value_is c.args.all.now.ranks.now c.args.all.now.counters.now s.place s.registers c.in-Some-rank_at.here here in
    let after : value_at c.args.all.now.ranks.now c.args.all.now.counters.now (s.place + 1) (registers_of (frame_of s)) ≤ c.in-Some-ahead_after.after + total_share c.args.all.now.counters.now c.in-Some-rank_at.here.counts s.registers 8 =
    subst (λ p. value_at c.args.all.now.ranks.now c.args.all.now.counters.now p (registers_of (frame_of s)) ≤ c.in-Some-ahead_after.after + total_share c.args.all.now.counters.now c.in-Some-rank_at.here.counts s.registers 8) next (c.in-Some-ahead_after.ensures s i.registers) in
    let less : c.in-Some-ahead_after.after < c.in-Some-rank_at.here.base - c.in-Some-most_at.first = grind (arith, nat_tests) in
    falls_local c.args.all.now.ranks.now c.args.all.now.counters.now c.args.all.now.nodes.now most s c.args.distance
    (λ j. let first = c.in-Some-most_at.ensures (state_after_call s c.args.distance) (sym place) j in omega (arith, first, after, value, less, c.if-first-here.true))
    (subst (IsSteady c.args.all.now.ranks.now c.args.all.now.counters.now) next (c.is_steady.ensures c.if-not-is_steady.false)) a f
