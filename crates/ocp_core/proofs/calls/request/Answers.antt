use Rattle.std.proofs.Common.{sym, subst, rules, ◌∙◌}
use Rattle.std.specs.Prelude.{Ok, Err}
use Rattle.ocp_world.specs.World.{Event, Request}
use Rattle.ocp_world.specs.After.{after}
use Rattle.ocp_world.specs.Mirror.Answering.{IsDiscard}
use Rattle.ocp_core.proofs.Counting.{counted}
use Rattle.ocp_core.proofs.Journaling.{as_read, discard_at, taken_at}
use Rattle.ocp_core.proofs.Storing.{done_store, full_at, accepted_at, answers_at, discarded_at, IsWorld-pushed}
use Rattle.ocp_core.proofs.calls.request.Goals as goal

pub returns-in-Some-clause-answer : goal.returns-in-Some-clause-answer
returns-in-Some-clause-answer g c =
    let e : Event = Request c.args.by c.args.time c.args.octets.now in
    let told = discard_at (g.S.Store.world c.args.store.now) c.args.by c.args.time c.args.octets.now _ c.apid.ensures.value _ c.read_tc-read.ensures.value _ c.discard_of.ensures.answer in
    discarded_at _ _ e c.in-Some.cause (subst (IsDiscard (after (g.S.Store.world c.args.store.now) e).answer) c.in-Some.is told)

pub returns-then-is_full-clause-answer : goal.returns-then-is_full-clause-answer
returns-then-is_full-clause-answer g c =
    let taken = taken_at (g.S.Store.world c.args.store.now) c.args.by c.args.time c.args.octets.now _ c.apid.ensures.value _ c.read_tc-read.ensures.value _ c.discard_of.ensures.answer c.in_default.is in
    sym (full_at _ _ (Request c.args.by c.args.time c.args.octets.now) taken (sym c.is_full.ensures ∙ c.if-is_full.true))

pub returns-in_err-copy-clause-answer : goal.returns-in_err-copy-clause-answer
returns-in_err-copy-clause-answer g c =
    let taken = taken_at (g.S.Store.world c.args.store.now) c.args.by c.args.time c.args.octets.now _ c.apid.ensures.value _ c.read_tc-read.ensures.value _ c.discard_of.ensures.answer c.in_default.is in
    let accepted = accepted_at _ _ (Request c.args.by c.args.time c.args.octets.now) taken (sym c.is_full.ensures ∙ c.if-is_full.false) in
    search (rules, accepted)

pub returns-in_err-kept-clause-answer : goal.returns-in_err-kept-clause-answer
returns-in_err-kept-clause-answer g c =
    let taken = taken_at (g.S.Store.world c.args.store.now) c.args.by c.args.time c.args.octets.now _ c.apid.ensures.value _ c.read_tc-read.ensures.value _ c.discard_of.ensures.answer c.in_default.is in
    let does = c.in_err-kept.ensures.does _ c.args.by c.args.octets.now c.requires.stands c.events.ensures (as_read (g.S.Store.world c.args.store.now) _ _ c.apid.ensures.value _ c.read_tc-read.ensures.value) in
    let refused = answers_at _ _ (Request c.args.by c.args.time c.args.octets.now) (Err c.in_err-kept.field-0.0) taken (sym c.is_full.ensures ∙ c.if-is_full.false) does.0 in
    search (rules, refused)

pub returns-in_err-kept-clause-world : goal.returns-in_err-kept-clause-world
returns-in_err-kept-clause-world g c = (c.in_err-kept.ensures.does _ c.args.by c.args.octets.now c.requires.stands c.events.ensures (as_read (g.S.Store.world c.args.store.now) _ _ c.apid.ensures.value _ c.read_tc-read.ensures.value)).1

pub push_request-requires-clause-may : goal.push_request-requires-clause-may
push_request-requires-clause-may g c =
    let does = c.in_ok-kept.ensures.does _ c.args.by c.args.octets.now c.requires.stands c.events.ensures (as_read (g.S.Store.world c.args.store.now) _ _ c.apid.ensures.value _ c.read_tc-read.ensures.value) in (
      c.receive.new.packets,
      c.in_ok-kept.ensures.kept,
      record {
        room = sym c.is_full.ensures ∙ c.if-is_full.false;
        accepted = counted _ (Request c.args.by c.args.time c.args.octets.now) (taken_at (g.S.Store.world c.args.store.now) c.args.by c.args.time c.args.octets.now _ c.apid.ensures.value _ c.read_tc-read.ensures.value _ c.discard_of.ensures.answer c.in_default.is);
        mark = sym does.0;
      },
    )

pub returns-clause-answer : goal.returns-clause-answer
returns-clause-answer g c =
    let taken = taken_at (g.S.Store.world c.args.store.now) c.args.by c.args.time c.args.octets.now _ c.apid.ensures.value _ c.read_tc-read.ensures.value _ c.discard_of.ensures.answer c.in_default.is in
    let does = c.in_ok-kept.ensures.does _ c.args.by c.args.octets.now c.requires.stands c.events.ensures (as_read (g.S.Store.world c.args.store.now) _ _ c.apid.ensures.value _ c.read_tc-read.ensures.value) in
    answers_at _ _ (Request c.args.by c.args.time c.args.octets.now) (Ok c.receive.new.packets) taken (sym c.is_full.ensures ∙ c.if-is_full.false) does.0

pub returns-clause-store : goal.returns-clause-store
returns-clause-store g c =
    let taken = taken_at (g.S.Store.world c.args.store.now) c.args.by c.args.time c.args.octets.now _ c.apid.ensures.value _ c.read_tc-read.ensures.value _ c.discard_of.ensures.answer c.in_default.is in
    done_store g.S.Store.world g.S.Store.is_full g.S.Store.with_entry c.args.store.now (Request c.args.by c.args.time c.args.octets.now) _ taken (sym c.is_full.ensures ∙ c.if-is_full.false) c.push_request.ensures.store

pub returns-clause-world : goal.returns-clause-world
returns-clause-world g c =
    let does = c.in_ok-kept.ensures.does _ c.args.by c.args.octets.now c.requires.stands c.events.ensures (as_read (g.S.Store.world c.args.store.now) _ _ c.apid.ensures.value _ c.read_tc-read.ensures.value) in
    IsWorld-pushed g.S.Store.world g.S.Store.with_entry g.met.S.Store.replays_entry c.args.store.now _ _ _ c.push_request.ensures.store does.1
