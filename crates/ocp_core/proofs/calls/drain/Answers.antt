use Rattle.std.proofs.Common.{sym, subst, rules, ◌∙◌}
use Rattle.std.specs.Prelude.{Ok, Err}
use Rattle.ocp_world.specs.World.{World, Event, Drain}
use Rattle.ocp_world.specs.After.{after}
use Rattle.ocp_world.specs.Mirror.Answering.{IsUndue}
use Rattle.ocp_core.proofs.Counting.{counted}
use Rattle.ocp_core.proofs.Storing.{done_store, full_at, answers_at, undue_at, due_at, IsWorld-pushed}
use Rattle.ocp_core.proofs.calls.drain.Goals as goal

pub returns-then-not-is_due-clause-answer : goal.returns-then-not-is_due-clause-answer
returns-then-not-is_due-clause-answer g c =
    let w : World = g.S.Store.world c.args.store.now in
    let e : Event = Drain c.args.by c.args.time in
    undue_at _ w e (subst (IsUndue (after w e).answer) c.if-not-is_due.true (c.is_due.ensures w c.args.by c.args.time c.requires.stands))

pub returns-then-is_full-clause-answer : goal.returns-then-is_full-clause-answer
returns-then-is_full-clause-answer g c =
    let taken = due_at _ _ c.args.by c.args.time c.requires.stands _ c.is_due.ensures c.if-not-is_due.false in
    sym (full_at _ _ (Drain c.args.by c.args.time) taken (sym c.is_full.ensures ∙ c.if-is_full.true))

pub returns-in_err-kept-clause-answer : goal.returns-in_err-kept-clause-answer
returns-in_err-kept-clause-answer g c =
    let taken = due_at _ _ c.args.by c.args.time c.requires.stands _ c.is_due.ensures c.if-not-is_due.false in
    let does = c.in_err-kept.ensures.does _ c.args.by c.requires.stands in
    let told = answers_at _ _ (Drain c.args.by c.args.time) (Err c.in_err-kept.field-0.0) taken (sym c.is_full.ensures ∙ c.if-is_full.false) does.0 in
    search (rules, told)

pub returns-in_err-kept-clause-world : goal.returns-in_err-kept-clause-world
returns-in_err-kept-clause-world g c = (c.in_err-kept.ensures.does _ c.args.by c.requires.stands).1

pub push_drain-requires : goal.push_drain-requires
push_drain-requires g c = (
  c.report_due.new.packets,
  c.in_ok-kept.ensures.kept,
  record {
    room = sym c.is_full.ensures ∙ c.if-is_full.false;
    accepted = counted _ (Drain c.args.by c.args.time) (due_at _ _ c.args.by c.args.time c.requires.stands _ c.is_due.ensures c.if-not-is_due.false);
    mark = sym (c.in_ok-kept.ensures.does _ c.args.by c.requires.stands).0;
  },
)

pub returns-clause-answer : goal.returns-clause-answer
returns-clause-answer g c =
    let taken = due_at _ _ c.args.by c.args.time c.requires.stands _ c.is_due.ensures c.if-not-is_due.false in
    answers_at _ _ (Drain c.args.by c.args.time) (Ok c.report_due.new.packets) taken (sym c.is_full.ensures ∙ c.if-is_full.false) (c.in_ok-kept.ensures.does _ c.args.by c.requires.stands).0

pub returns-clause-store : goal.returns-clause-store
returns-clause-store g c =
    let taken = due_at _ _ c.args.by c.args.time c.requires.stands _ c.is_due.ensures c.if-not-is_due.false in
    done_store g.S.Store.world g.S.Store.is_full g.S.Store.with_entry c.args.store.now (Drain c.args.by c.args.time) _ taken (sym c.is_full.ensures ∙ c.if-is_full.false) c.push_drain.ensures.store

pub returns-clause-world : goal.returns-clause-world
returns-clause-world g c = IsWorld-pushed g.S.Store.world g.S.Store.with_entry g.met.S.Store.replays_entry c.args.store.now _ _ _ c.push_drain.ensures.store (c.in_ok-kept.ensures.does _ c.args.by c.requires.stands).1

pub report_due-requires : goal.report_due-requires
report_due-requires g c w by stands = due_at w _ by c.args.time stands _ c.is_due.ensures c.if-not-is_due.false
