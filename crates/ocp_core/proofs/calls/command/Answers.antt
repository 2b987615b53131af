use Rattle.std.proofs.Common.{Bool, true, false, ◌≡◌, sym, ap, rules, ◌∙◌}
use Rattle.ocp_world.specs.World.{World, Event, Debug}
use Rattle.ocp_world.specs.After.{is_accepted}
use Rattle.ocp_core.specs.Log.{entry_for}
use Rattle.ocp_core.proofs.Counting.{counted}
use Rattle.ocp_core.proofs.Storing.{refused_store, full_store, done_store, fault_at, full_at, done_at, IsWorld-pushed}
use Rattle.ocp_core.proofs.calls.command.Goals as goal

pub returns-in_err-decided-clause-answer : goal.returns-in_err-decided-clause-answer
returns-in_err-decided-clause-answer g c =
    let w : World = g.S.Store.world c.args.store.now in
    let e : Event = Debug c.args.by c.args.id c.args.command in
    let full : Bool = g.S.Store.is_full c.args.store.now (entry_for e) in
    let told = fault_at full w e c.in_err-decided.field-0.0 (c.in_err-decided.ensures.answer w c.args.by c.requires.stands) in
    search (rules, told)

pub returns-in_err-decided-clause-store : goal.returns-in_err-decided-clause-store
returns-in_err-decided-clause-store g c =
    let w : World = g.S.Store.world c.args.store.now in
    refused_store g.S.Store.world g.S.Store.is_full g.S.Store.with_entry c.args.store.now (Debug c.args.by c.args.id c.args.command) (ap is_accepted (c.in_err-decided.ensures.answer w c.args.by c.requires.stands))

pub returns-then-is_full-clause-answer : goal.returns-then-is_full-clause-answer
returns-then-is_full-clause-answer g c =
    let w : World = g.S.Store.world c.args.store.now in
    let e : Event = Debug c.args.by c.args.id c.args.command in
    let no_room : g.S.Store.is_full c.args.store.now (entry_for e) ≡ true = ap (λ (e : Event). g.S.Store.is_full c.args.store.now (entry_for e)) (sym c.of_command.ensures) ∙ sym c.is_full.ensures ∙ c.if-is_full.true in
    full_at _ w e (ap is_accepted (c.in_ok-decided.ensures.answer w c.args.by c.requires.stands)) no_room

pub returns-then-is_full-clause-store : goal.returns-then-is_full-clause-store
returns-then-is_full-clause-store g c =
    let w : World = g.S.Store.world c.args.store.now in
    let e : Event = Debug c.args.by c.args.id c.args.command in
    let no_room : g.S.Store.is_full c.args.store.now (entry_for e) ≡ true = ap (λ (e : Event). g.S.Store.is_full c.args.store.now (entry_for e)) (sym c.of_command.ensures) ∙ sym c.is_full.ensures ∙ c.if-is_full.true in
    full_store g.S.Store.world g.S.Store.is_full g.S.Store.with_entry c.args.store.now e (ap is_accepted (c.in_ok-decided.ensures.answer w c.args.by c.requires.stands)) no_room

pub push_command-requires : goal.push_command-requires
push_command-requires g c =
    let w : World = g.S.Store.world c.args.store.now in
    let e : Event = Debug c.args.by c.args.id c.args.command in
    let told = c.in_ok-decided.ensures.answer w c.args.by c.requires.stands in
    record {
      room = ap (λ (e : Event). g.S.Store.is_full c.args.store.now (entry_for e)) (sym c.of_command.ensures) ∙ sym c.is_full.ensures ∙ c.if-is_full.false;
      accepted = counted w e (ap is_accepted told);
      mark = sym told;
    }

pub returns-clause-answer : goal.returns-clause-answer
returns-clause-answer g c =
    let w : World = g.S.Store.world c.args.store.now in
    let e : Event = Debug c.args.by c.args.id c.args.command in
    let told = c.in_ok-decided.ensures.answer w c.args.by c.requires.stands in
    let room : g.S.Store.is_full c.args.store.now (entry_for e) ≡ false = ap (λ (e : Event). g.S.Store.is_full c.args.store.now (entry_for e)) (sym c.of_command.ensures) ∙ sym c.is_full.ensures ∙ c.if-is_full.false in
    done_at _ w e _ (ap is_accepted told) room (sym told)

pub returns-clause-store : goal.returns-clause-store
returns-clause-store g c =
    let w : World = g.S.Store.world c.args.store.now in
    let e : Event = Debug c.args.by c.args.id c.args.command in
    let told = c.in_ok-decided.ensures.answer w c.args.by c.requires.stands in
    let room : g.S.Store.is_full c.args.store.now (entry_for e) ≡ false = ap (λ (e : Event). g.S.Store.is_full c.args.store.now (entry_for e)) (sym c.of_command.ensures) ∙ sym c.is_full.ensures ∙ c.if-is_full.false in
    done_store g.S.Store.world g.S.Store.is_full g.S.Store.with_entry c.args.store.now e _ (ap is_accepted told) room c.push_command.ensures

pub returns-clause-world : goal.returns-clause-world
returns-clause-world g c = IsWorld-pushed g.S.Store.world g.S.Store.with_entry g.met.S.Store.replays_entry c.args.store.now _ _ _ c.push_command.ensures (c.enact.ensures _ c.args.by c.args.command c.requires.stands c.in_ok-decided.ensures.ok)
