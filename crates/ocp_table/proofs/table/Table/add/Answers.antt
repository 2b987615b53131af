use Rattle.std.proofs.Common.{◌≡◌, ◌<◌, None, refl, sym, ap, subst, ◌∙◌, arith}
use Rattle.std.proofs.lemmas.List.Elements.{All-pop}
use Rattle.std.specs.FinMap.{get, insert}
use Rattle.slab.specs.Slab.{slab_len}
use Rattle.bpf_step.specs.Machine.{HasMemoryOf}
use Rattle.ocp_table.specs.Records.{Execution}
use Rattle.ocp_table.specs.declared.table.TheConstants.{MAX_PROCEDURES}
use Rattle.ocp_table.specs.Effects.{new_record}
use Rattle.ocp_table.specs.Shown.{id_of, record_of}
use Rattle.ocp_table.specs.Mirror.Contents.{contents}
use Rattle.ocp_table.proofs.ContentsLemmas.{IsDistinct-put, contents-put, Replaces-new, IsAbsent-from_get, len-contents}
use Rattle.ocp_table.proofs.Fitting.{fits-inserted}
use Rattle.ocp_table.proofs.Memories.{AreOwn, own-inserted}
use Rattle.ocp_table.proofs.Tables.{table_is, few_from_room}
use Rattle.ocp_table.proofs.table.Table.add.Goals as goal

-- there is a spare execution, since the table is not full
pub unwrap-execution-requires : goal.unwrap-execution-requires
unwrap-execution-requires g c =
    let sound = c.self.invariant.0.sound in
    let room = rw (← c.self.view_is) at c.requires.room in
    let few : slab_len c.self.inside.records < MAX_PROCEDURES = few_from_room c.self.inside.records _ (sym (len-contents id_of record_of c.self.inside.records sound.distinct)) room in
    c.pop.ensures.variant.1 (omega (arith, few, c.self.invariant.1.all))

-- its memory is that of the profile
pub load-requires : goal.load-requires
load-requires g c =
    let popped = All-pop (λ (e : Execution). HasMemoryOf c.self.inside.profile e.machine) c.self.inside.spares.items _ _ c.pop.ensures.items c.self.invariant.2.spare in
    rw c.unwrap-execution.ensures at popped.1

pub invariant_of-self-2 : goal.invariant_of-self-2
invariant_of-self-2 g c =
    let sound = c.self.invariant.0.sound in
    let room = rw (← c.self.view_is) at c.requires.room in
    let few : slab_len c.self.inside.records < MAX_PROCEDURES = few_from_room c.self.inside.records _ (sym (len-contents id_of record_of c.self.inside.records sound.distinct)) room in
    let free : get (contents id_of record_of c.self.inside.records) (id_of c.new.result) ≡ None = ap (get (contents id_of record_of c.self.inside.records)) c.new.ensures.id ∙ (rw (← c.self.view_is) at c.requires.absent) in
    let absent = IsAbsent-from_get id_of record_of c.self.inside.records (id_of c.new.result) sound.distinct free in
    let new = Replaces-new id_of record_of c.self.inside.records _ _ c.insert_reserved-key.ensures.was_vacant absent in
    let put = contents-put id_of record_of c.self.inside.records c.insert_reserved-key.new.self c.insert_reserved-key.result _ sound.distinct new c.insert_reserved-key.ensures.updates in (
      record {
        sound = record {
          distinct = IsDistinct-put id_of record_of c.self.inside.records c.insert_reserved-key.new.self c.insert_reserved-key.result _ sound.distinct new c.insert_reserved-key.ensures.updates;
          few = omega (arith, c.insert_reserved-key.ensures.len, few);
          room = omega (arith, c.insert_reserved-key.ensures.capacity, sound.room);
        };
        places = fits-inserted _ _ _ (id_of c.new.result) (record_of c.new.result) put c.new.ensures.idle c.self.invariant.0.places;
      },
      record {
        all = omega (arith, c.self.invariant.1.all, c.insert_reserved-key.ensures.len, rw c.unwrap-execution.ensures at c.pop.ensures.cases);
        room = omega (arith, c.self.invariant.1.room, c.pop.ensures.capacity);
      },
      record {
        held = subst (AreOwn c.self.inside.profile) (sym put) (own-inserted c.self.inside.profile (contents id_of record_of c.self.inside.records) (id_of c.new.result) (record_of c.new.result) c.self.invariant.2.held (subst (λ (e : Execution). HasMemoryOf c.self.inside.profile e.machine) (sym c.new.ensures.execution) c.load.ensures.own));
        spare = (All-pop (λ (e : Execution). HasMemoryOf c.self.inside.profile e.machine) c.self.inside.spares.items _ _ c.pop.ensures.items c.self.invariant.2.spare).0;
      },
    )

pub returns-clause-ok : goal.returns-clause-ok
returns-clause-ok g c =
    let sound = c.self.invariant.0.sound in
    let free : get (contents id_of record_of c.self.inside.records) (id_of c.new.result) ≡ None = ap (get (contents id_of record_of c.self.inside.records)) c.new.ensures.id ∙ (rw (← c.self.view_is) at c.requires.absent) in
    let absent = IsAbsent-from_get id_of record_of c.self.inside.records (id_of c.new.result) sound.distinct free in
    let new = Replaces-new id_of record_of c.self.inside.records _ _ c.insert_reserved-key.ensures.was_vacant absent in
    let put = contents-put id_of record_of c.self.inside.records c.insert_reserved-key.new.self c.insert_reserved-key.result _ sound.distinct new c.insert_reserved-key.ensures.updates in
    let made = c.in_default.ensures.ok in
    let shows = c.new.ensures.record c.self.inside.profile (ap (λ e. e.machine) made) ∙ ap (λ e. new_record c.self.inside.profile e.image) made in
    rw (← c.self.view_is) (table_is _ _ _ _ _ (put ∙ ap (λ i. insert (contents id_of record_of c.self.inside.records) i (record_of c.new.result)) c.new.ensures.id ∙ ap (insert (contents id_of record_of c.self.inside.records) c.args.id) shows) refl)
