use Rattle.std.proofs.Common.{◌≡◌, Some, false, refl, sym, ap, subst, ◌∙◌}
use Rattle.std.specs.FinMap.{get}
use Rattle.bpf_step.specs.Step.{StandsIn}
use Rattle.ocp_table.specs.Snapshots.{snapshot_at, StandsAt}
use Rattle.ocp_world.specs.After.{Stepped}
use Rattle.ocp_world.specs.Settled.{world_after_work}
use Rattle.ocp_world.specs.Mirror.State.{IsWorld}
use Rattle.ocp_core.specs.Log.{Log, is_full, world_of}
use Rattle.ocp_core.specs.Tickets.{WorkContents, IsRun}
use Rattle.ocp_core.specs.Commits.{IsFresh, IsCommitted, work_after}
use Rattle.ocp_core.specs.declared.answers.CommitOutcome.TheVariants.{Committed}
use Rattle.ocp_core.proofs.Committing.{fresh_at, may_settle, given_back, run_none, IsWorld-committed, world_committed, counted_commit}
use Rattle.ocp_core.proofs.Growing.{grows_none, grows_commit}
use Rattle.ocp_core.proofs.Marking.{commit_mark}
use Rattle.ocp_core.proofs.engine.Engine.hand_in.Goals as goal

pub invariant_of-self : goal.invariant_of-self
invariant_of-self g c =
    let work : WorkContents = record { id = c.work.inside.id; base = c.work.inside.parts.value.base; end = c.work.inside.parts.value.machine; count = c.work.inside.count } in
    let fresh = subst (λ p. IsFresh c.self.inside.journal (record work { base = p.base })) c.deref.ensures (fresh_at _ c.self.inside.journal _ _ c.self.invariant (ap snapshot_at c.in-Some.ensures.some ∙ c.is_at.ensures.same.0 c.if-not-is_at.false)) in
    let settled = subst (λ p. IsWorld (world_after_work work.id p.machine work.count (world_of c.self.inside.journal)) c.settle.new.self) c.deref_mut.ensures.value (c.settle.ensures.world _ c.self.invariant) in
    IsWorld-committed c.instructions_done_alone_are_events.ensures.world c.self.inside.journal c.push_steps.new.self c.args.by work c.settle.new.self c.if-count-eq0.false fresh c.work.invariant c.push_steps.ensures settled

pub invariant_of-work : goal.invariant_of-work
invariant_of-work g c =
    let work : WorkContents = record { id = c.work.inside.id; base = c.work.inside.parts.value.base; end = c.work.inside.parts.value.machine; count = c.work.inside.count } in
    let fresh = subst (λ p. IsFresh c.self.inside.journal (record work { base = p.base })) c.deref.ensures (fresh_at _ c.self.inside.journal _ _ c.self.invariant (ap snapshot_at c.in-Some.ensures.some ∙ c.is_at.ensures.same.0 c.if-not-is_at.false)) in
    let stands = subst (λ p. StandsIn p.base.image p.base.machine) c.deref.ensures (c.is_at.ensures.stands c.if-not-is_at.false) in
    let run = run_none work.id work.base c.settle.new.machine stands (given_back c.self.inside.journal work _ c.settle.new.machine fresh (c.settle.ensures.machine _ c.self.invariant)) in
    subst (λ p. IsRun (record { id = work.id; base = p.base; end = c.settle.new.machine; count = 0 })) (sym c.deref_mut.ensures.value) run

-- the machine that ran stands in the procedure's image, and has the addresses of its own
pub settle-requires : goal.settle-requires
settle-requires g c =
    let work : WorkContents = record { id = c.work.inside.id; base = c.work.inside.parts.value.base; end = c.work.inside.parts.value.machine; count = c.work.inside.count } in
    let records = c.self.inside.state.table.records in
    let same = subst (λ p. snapshot_at (get records work.id) ≡ Some p.base) c.deref.ensures (ap snapshot_at c.in-Some.ensures.some ∙ c.is_at.ensures.same.0 c.if-not-is_at.false) in
    let may = may_settle c.runs_keep_the_addresses.ensures (get records work.id) work same c.work.invariant in
    record { stands = subst (λ p. StandsAt (get records work.id) p.machine) (sym c.deref_mut.ensures.value) may }

pub returns-clause-commits : goal.returns-clause-commits
returns-clause-commits g c =
    let work : WorkContents = record { id = c.work.inside.id; base = c.work.inside.parts.value.base; end = c.work.inside.parts.value.machine; count = c.work.inside.count } in
    let fresh = subst (λ p. IsFresh c.self.inside.journal (record work { base = p.base })) c.deref.ensures (fresh_at _ c.self.inside.journal _ _ c.self.invariant (ap snapshot_at c.in-Some.ensures.some ∙ c.is_at.ensures.same.0 c.if-not-is_at.false)) in
    let free : is_full c.self.inside.journal ≡ false = sym c.is_full.ensures ∙ c.if-is_full.false in
    let world = world_committed c.instructions_done_alone_are_events.ensures.world c.self.inside.journal c.push_steps.new.self c.args.by work c.if-count-eq0.false fresh c.work.invariant c.push_steps.ensures in
    subst (λ (log : Log). (c.args.work.now.count ≡ 0 → ⊥) × IsFresh log c.args.work.now × is_full log ≡ false × c.work.inside.count ≡ c.args.work.now.count × IsCommitted log c.push_steps.new.self c.args.by c.args.work.now) c.self.view_is
    (subst (λ (w : WorkContents). (w.count ≡ 0 → ⊥) × IsFresh c.self.inside.journal w × is_full c.self.inside.journal ≡ false × c.work.inside.count ≡ w.count × IsCommitted c.self.inside.journal c.push_steps.new.self c.args.by w) c.work.view_is
    (c.if-count-eq0.false, fresh, free, refl, record { journal = c.push_steps.ensures; world = world }))

pub returns-clause-work : goal.returns-clause-work
returns-clause-work g c =
    let work : WorkContents = record { id = c.work.inside.id; base = c.work.inside.parts.value.base; end = c.work.inside.parts.value.machine; count = c.work.inside.count } in
    let fresh = subst (λ p. IsFresh c.self.inside.journal (record work { base = p.base })) c.deref.ensures (fresh_at _ c.self.inside.journal _ _ c.self.invariant (ap snapshot_at c.in-Some.ensures.some ∙ c.is_at.ensures.same.0 c.if-not-is_at.false)) in
    let given = given_back c.self.inside.journal work _ c.settle.new.machine fresh (c.settle.ensures.machine _ c.self.invariant) in
    let same : (record { id = work.id; base = c.deref_mut.result.now.base; end = c.settle.new.machine; count = 0 }) ≡ work_after work (Committed work.count) =
    ap (λ p. record { id = work.id; base = p.base; end = c.settle.new.machine; count = 0 }) c.deref_mut.ensures.value
    ∙ ap (λ m. record { id = work.id; base = work.base; end = m; count = 0 }) given in
    subst (λ w. (record { id = work.id; base = c.deref_mut.result.now.base; end = c.settle.new.machine; count = 0 }) ≡ work_after w (Committed work.count)) c.work.view_is same

pub push_steps-requires-clause-may : goal.push_steps-requires-clause-may
push_steps-requires-clause-may g c =
    let work : WorkContents = record { id = c.work.inside.id; base = c.work.inside.parts.value.base; end = c.work.inside.parts.value.machine; count = c.work.inside.count } in
    let fresh = subst (λ p. IsFresh c.self.inside.journal (record work { base = p.base })) c.deref.ensures (fresh_at _ c.self.inside.journal _ _ c.self.invariant (ap snapshot_at c.in-Some.ensures.some ∙ c.is_at.ensures.same.0 c.if-not-is_at.false)) in
    record {
      room = sym c.is_full.ensures ∙ c.if-is_full.false;
      accepted = counted_commit c.instructions_done_alone_are_events.ensures.world c.self.inside.journal c.args.by work c.if-count-eq0.false fresh c.work.invariant;
      mark = ap Stepped (sym (commit_mark c.instructions_done_alone_are_events.ensures.answers c.self.inside.journal c.args.by work c.if-count-eq0.false fresh c.work.invariant));
    }

pub returns-then-count-eq0-clause-gain : goal.returns-then-count-eq0-clause-gain
returns-then-count-eq0-clause-gain g c = grows_none _ _ _ refl refl

pub returns-in_default-clause-gain : goal.returns-in_default-clause-gain
returns-in_default-clause-gain g c = grows_none _ _ _ refl refl

pub returns-then-not-is_at-clause-gain : goal.returns-then-not-is_at-clause-gain
returns-then-not-is_at-clause-gain g c = grows_none _ _ _ refl refl

pub returns-then-is_full-clause-gain : goal.returns-then-is_full-clause-gain
returns-then-is_full-clause-gain g c = grows_none _ _ _ refl refl

pub returns-clause-gain : goal.returns-clause-gain
returns-clause-gain g c = grows_commit c.instructions_done_alone_are_events.ensures.answers c.args.self.now c.push_steps.new.self c.args.by c.args.work.now (Committed c.work.inside.count) (subst IsRun c.work.view_is c.work.invariant) (returns-clause-commits g c)
