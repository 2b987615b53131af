use Rattle.std.proofs.Common.{rules, subst}
use Rattle.std.proofs.lemmas.Option.{slice_get_within}
use Rattle.ocp_check.specs.declared.certificate.Node.{Node}
use Rattle.ocp_check.specs.Mirror.Start.{node_at_start}
use Rattle.bpf_step.specs.Machine.{State}
use Rattle.bpf_step.specs.Step.{one_step}
use Rattle.ocp_check.specs.Mirror.Fits.{Covers, Fits, FitsAfter}
use Rattle.ocp_check.proofs.Kept.{each_more}
use Rattle.ocp_check.proofs.Sound.{always, never_faults, starts}
use Rattle.ocp_check.proofs.checker.check.Goals as goal

pub loop-slot-preserved : goal.loop-slot-preserved
loop-slot-preserved g c = each_more (λ (s : State). Fits c.args.certificate.now s → FitsAfter c.args.certificate.now s (one_step c.args.program.now s))
    c.loop-slot.slot c.loop-slot.invariant (c.is_kept_at.ensures c.if-not-is_kept_at.false)

pub returns-clause-sound : goal.returns-clause-sound
returns-clause-sound g c = λ h.
    never_faults c.args.program.now c.args.certificate.now node_at_start (subst (λ (n : Node). Covers c.args.certificate.now 0 n) c.at_start.ensures (c.covers.ensures c.if-not-covers.false))
    (starts c.machines_started_anew_are_as_new.ensures.new c.memories_have_octets.ensures.started c.args.certificate.now)
    (λ s i. c.loop-slot.invariant s (let there = slice_get_within c.args.certificate.now s.place _ i.found in search (rules, c, there)) i)

pub returns-clause-fits : goal.returns-clause-fits
returns-clause-fits g c = λ h s r.
    always c.args.program.now c.args.certificate.now node_at_start (subst (λ (n : Node). Covers c.args.certificate.now 0 n) c.at_start.ensures (c.covers.ensures c.if-not-covers.false))
    (starts c.machines_started_anew_are_as_new.ensures.new c.memories_have_octets.ensures.started c.args.certificate.now)
    (λ s i. c.loop-slot.invariant s (let there = slice_get_within c.args.certificate.now s.place _ i.found in search (rules, c, there)) i) s r

pub returns-clause-within : goal.returns-clause-within
returns-clause-within g c = λ h s r.
    let i = always c.args.program.now c.args.certificate.now node_at_start (subst (λ (n : Node). Covers c.args.certificate.now 0 n) c.at_start.ensures (c.covers.ensures c.if-not-covers.false))
    (starts c.machines_started_anew_are_as_new.ensures.new c.memories_have_octets.ensures.started c.args.certificate.now)
    (λ s i. c.loop-slot.invariant s (let there = slice_get_within c.args.certificate.now s.place _ i.found in search (rules, c, there)) i) s r in
    slice_get_within c.args.certificate.now s.place _ i.found

pub returns-clause-after : goal.returns-clause-after
returns-clause-after g c = λ h s r.
    let keeps : (s : State) → Fits c.args.certificate.now s → FitsAfter c.args.certificate.now s (one_step c.args.program.now s) =
    λ s i. c.loop-slot.invariant s (let there = slice_get_within c.args.certificate.now s.place _ i.found in search (rules, c, there)) i in
    keeps s (always c.args.program.now c.args.certificate.now node_at_start (subst (λ (n : Node). Covers c.args.certificate.now 0 n) c.at_start.ensures (c.covers.ensures c.if-not-covers.false))
    (starts c.machines_started_anew_are_as_new.ensures.new c.memories_have_octets.ensures.started c.args.certificate.now) keeps s r)
