use Rattle.std.proofs.Common.{Option, refl, sym, ap, subst, ◌∙◌, arith}
use Rattle.std.specs.List.{All}
use Rattle.std.specs.FinMap as map
use Rattle.std.proofs.lemmas.List.Elements.{All-push}
use Rattle.ocp_profile.specs.declared.profile.Profile.{Profile}
use Rattle.bpf_step.specs.Machine.{HasMemoryOf}
use Rattle.ocp_table.specs.declared.change.Change as C
use Rattle.ocp_table.specs.declared.change.Change.TheVariants as change
use Rattle.ocp_table.specs.Records.{Execution, Rec}
use Rattle.ocp_table.specs.Outbox.{is_outbox_full}
use Rattle.ocp_table.specs.Effects.{Unloaded, Changed, table_by}
use Rattle.ocp_table.specs.Shown.{id_of, record_of, change_of, effect_decided, IfChanges, FitsIn, HasPlaceFor}
use Rattle.ocp_table.specs.Mirror.Contents.{contents}
use Rattle.ocp_table.proofs.ContentsLemmas.{contents-removed}
use Rattle.ocp_table.proofs.Fitting.{fits_by}
use Rattle.ocp_table.proofs.Held.{place_at, records_at, holds-by, stocked-at}
use Rattle.ocp_table.proofs.Rooms.{outbox_fits}
use Rattle.ocp_table.proofs.Memories.{AreOwn, IsFitted, own-removed, own-changed}
use Rattle.ocp_table.proofs.Tables.{table_of, table_is, records-changed, records-kept, outbox-changed, outbox-kept, outbox-unloaded, IsSound-removed}
use Rattle.ocp_table.proofs.table.Table.enact.Goals as goal

-- the arguments of a start fit
fitted : (profile : Profile) (change : C.Change) (o : Option Rec) → FitsIn (change_of change) o → IsFitted profile (change_of change)
fitted profile (change.Started budget arguments) o fits = fits
fitted profile (change.Sent words) o fits = tt
fitted profile (change.Pended pending) o fits = tt
fitted profile (change.Quit cause) o fits = tt
fitted profile change.Resumed o fits = tt

pub returns-in_default : goal.returns-in_default
returns-in_default g c =
    let absent = c.in_default.ensures.absent in
    rw (← c.self.view_is) (table_is _ _ _ _ _ (records-kept _ c.args.id absent c.args.decided.decision) (outbox-kept _ c.args.id absent c.self.inside.outbox.items c.args.decided.decision))

-- ---- the record is dropped

pub overtake-requires : goal.overtake-requires
overtake-requires g c = place_at id_of record_of c.self.inside.records c.self.inside.outbox.items _ c.args.id _ c.in-Some.ensures.found c.index.ensures c.self.invariant.0

pub invariant_of-self : goal.invariant_of-self
invariant_of-self g c =
    let m = contents id_of record_of c.self.inside.records in
    let found = c.in-Some.ensures.found in
    let gone = contents-removed id_of record_of c.self.inside.records c.remove-record.new.self _ _ c.self.invariant.0.sound.distinct c.index.ensures c.remove-record.ensures.updates ∙ ap (map.remove m) (found.named _ c.index.ensures) in
    let files = c.overtake.ensures ∙ outbox-unloaded m c.args.id (record_of c.index.result.now) c.self.inside.outbox.items (found.there _ c.index.ensures) in (
      record {
        sound = IsSound-removed id_of c.self.inside.records c.remove-record.new.self _ c.self.invariant.0.sound c.remove-record.ensures.updates c.remove-record.ensures.len c.remove-record.ensures.capacity;
        places = fits_by m _ c.self.inside.outbox.items _ (Unloaded c.args.id) gone files (outbox_fits m c.self.inside.outbox.items c.self.invariant.0.places (Unloaded c.args.id) tt);
      },
      record {
        all = omega (arith, c.self.invariant.1.all, c.remove-record.ensures.len, c.push_reserved.ensures.len);
        room = omega (arith, c.self.invariant.1.room, c.push_reserved.ensures.capacity);
      },
      record {
        held = subst (AreOwn c.self.inside.profile) (sym gone) (own-removed c.self.inside.profile m c.args.id c.self.invariant.2.held);
        spare = subst (All (λ (e : Execution). HasMemoryOf c.self.inside.profile e.machine)) (sym c.push_reserved.ensures.items) (All-push (λ (e : Execution). HasMemoryOf c.self.inside.profile e.machine) c.self.inside.spares.items _ c.self.invariant.2.spare (c.self.invariant.2.held c.args.id _ (found.there _ c.remove-record.ensures.value)));
      },
    )

pub returns-in-Unloads : goal.returns-in-Unloads
returns-in-Unloads g c =
    let m = contents id_of record_of c.self.inside.records in
    let found = c.in-Some.ensures.found in
    let gone = contents-removed id_of record_of c.self.inside.records c.remove-record.new.self _ _ c.self.invariant.0.sound.distinct c.index.ensures c.remove-record.ensures.updates ∙ ap (map.remove m) (found.named _ c.index.ensures) in
    let files = c.overtake.ensures ∙ outbox-unloaded m c.args.id (record_of c.index.result.now) c.self.inside.outbox.items (found.there _ c.index.ensures) in
    rw (← c.self.view_is) (table_is _ _ _ _ _ gone files ∙ ap (λ d. table_by (effect_decided c.args.id d) (table_of c.self.inside.profile m c.self.inside.outbox.items)) (sym c.in-Unloads.is))

-- ---- the record is changed

pub enact-requires-clause-place : goal.enact-requires-clause-place
enact-requires-clause-place g c = place_at id_of record_of c.self.inside.records c.self.inside.outbox.items _ c.args.id _ c.in-Some.ensures.found c.index_mut.ensures.value c.self.invariant.0

pub invariant_of-self-in-Changes : goal.invariant_of-self-in-Changes
invariant_of-self-in-Changes g c =
    let m = contents id_of record_of c.self.inside.records in
    let change = change_of c.in-Changes.change in
    let there = c.in-Some.ensures.found.there _ c.index_mut.ensures.value in
    let place = subst (λ d. IfChanges d (HasPlaceFor (is_outbox_full m c.self.inside.outbox.items))) (c.in-Changes.is) (subst (λ t. IfChanges c.args.decided.decision (HasPlaceFor (is_outbox_full t.records t.outbox))) (sym c.self.view_is) c.requires.place) in
    let fits = subst (λ d. IfChanges d (λ change. FitsIn change (map.get c.args.self.now.records c.args.id))) c.in-Changes.is c.requires.fits in (
      holds-by id_of record_of c.self.inside.records c.self.inside.outbox.items _ c.args.id _ c.in-Some.ensures.found c.index_mut.ensures.value c.self.invariant.0 _ c.enact.ensures.id (Changed c.args.id change) _
          (records_at id_of record_of c.self.inside.records c.self.inside.outbox.items _ c.args.id _ c.in-Some.ensures.found c.index_mut.ensures.value c.self.invariant.0 _ c.enact.ensures.id _ refl ∙ records-changed m c.args.id change _ _ there c.enact.ensures.record)
          (c.enact.ensures.outbox ∙ outbox-changed m c.args.id change _ c.self.inside.outbox.items there)
          (outbox_fits m c.self.inside.outbox.items c.self.invariant.0.places (Changed c.args.id change) place),
      stocked-at _ _ _ _ _ c.index_mut.ensures.value c.self.invariant.1,
      record {
        held = own-changed c.self.inside.profile c.machines_started_anew_are_as_new.ensures.new c.machines_started_anew_are_as_new.ensures.again m _ c.args.id change
            (records_at id_of record_of c.self.inside.records c.self.inside.outbox.items _ c.args.id _ c.in-Some.ensures.found c.index_mut.ensures.value c.self.invariant.0 _ c.enact.ensures.id _ refl ∙ records-changed m c.args.id change _ _ there c.enact.ensures.record)
            (fitted c.self.inside.profile c.in-Changes.change _ fits) c.self.invariant.2.held;
        spare = c.self.invariant.2.spare;
      },
    )
