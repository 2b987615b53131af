use Rattle.std.proofs.Common.{rules, arith, ◌≡◌, ◌<◌, ◌+◌, ◌-◌, ◌%◌, ◌^◌, to_z, of_z, w32, set, None, ◌∙◌, ap, subst, length}
use Rattle.ocp_loader.specs.LineAt.{target}
use Rattle.bpf_step.specs.Machine.{read}
use Rattle.ocp_check.specs.declared.certificate.Node.{Node}
use Rattle.ocp_check.specs.Mirror.Ranges.{IsIn}
use Rattle.ocp_check.specs.Mirror.Callers.{node_after_return}
use Rattle.ocp_check.specs.Mirror.Fits.{Covers}
use Rattle.ocp_check.proofs.Opening.{fits_local}
use Rattle.ocp_check.proofs.steps.is_kept_opening.Goals as goal

pub returns-then-covers : goal.returns-then-covers
returns-then-covers c = λ h s e i.
    let l : length c.args.node.now.row ≡ 11 = search (rules, c) in
    let k : length c.args.node.now.forms ≡ 11 = search (rules, c) in
    let same : to_z w32 (of_z w32 c.args.distance) ≡ c.args.distance = search (rules, c.ranges.distance.sfits) in
    let here : c.in-Some.place ≡ target c.args.slot c.args.distance = c.in-Some.ensures ∙ ap (target c.args.slot) same in
    let down : c.wrapping_neg.result ≡ 2 ^ 64 - 512 = search (rules, c) in
    let pointer : IsIn c.sum-pointer.result ((read s 10 + (2 ^ 64 - 512)) % 2 ^ 64) =
    c.sum-pointer.ensures (read s 10) (2 ^ 64 - 512) (i.registers.each 10 (omega arith)) (subst (IsIn c.only.result) down c.only.ensures.holds) in
    let deep : c.args.node.now.depth < 7 = omega (arith, c.if-from-ge-MAX_LOCAL_CALLS.false, c.from.ensures) in
    let next : c.from-then-covers.result + 1 ≡ c.args.slot + 1 = ap (λ n. n + 1) c.from-then-covers.ensures in
    fits_local c.args.certificate.now c.args.node.now s c.args.slot c.args.distance c.sum-pointer.result c.in-Some-Some.first.promise c.in-Some-Some.first.spared l k deep e i pointer
    (subst (λ p. Covers c.args.certificate.now p (record { row = set c.args.node.now.row 10 c.sum-pointer.result; forms = set c.args.node.now.forms 10 None; words = c.args.node.now.words; kept = 0; depth = c.args.node.now.depth + 1; promise = c.in-Some-Some.first.promise; spared = c.in-Some-Some.first.spared })) here
    (subst (λ (n : Node). Covers c.args.certificate.now c.in-Some.place n) c.at_call-called.ensures (c.covers.ensures c.if-covers.true)))
    (subst (λ p. Covers c.args.certificate.now p (node_after_return c.args.node.now c.in-Some-Some.first.promise c.in-Some-Some.first.spared)) next
    (subst (λ (n : Node). Covers c.args.certificate.now (c.from-then-covers.result + 1) n) c.after_return-returned.ensures (c.covers-then-covers.ensures h)))
