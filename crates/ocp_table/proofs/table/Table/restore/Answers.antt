use Rattle.std.proofs.Common.{◌≡◌, ◌<◌, Some, None, refl, sym, ap, subst, ◌∙◌, arith}
use Rattle.std.specs.FinMap.{get, insert}
use Rattle.std.specs.List.{All}
use Rattle.std.proofs.lemmas.List.Elements.{All-pop, All-push}
use Rattle.slab.specs.Slab.{slab_len}
use Rattle.bpf_step.specs.Machine.{HasMemoryOf}
use Rattle.ocp_table.specs.declared.table.TheConstants.{MAX_PROCEDURES}
use Rattle.ocp_table.specs.Records.{Execution}
use Rattle.ocp_loader.specs.LoadResult.{load_result}
use Rattle.ocp_table.specs.Restoring.{fault_of_control, fault_of_program, fault_of_table, record_of_saved}
use Rattle.ocp_table.specs.Shown.{id_of, record_of}
use Rattle.ocp_table.specs.Mirror.Contents.{contents}
use Rattle.ocp_table.proofs.ContentsLemmas.{IsDistinct-put, contents-put, Replaces-new, IsAbsent-from_get, len-contents}
use Rattle.ocp_table.proofs.Memories.{AreOwn, own-inserted}
use Rattle.ocp_table.proofs.Restores.{passes, free_above, fits-restored, first-some, first-last}
use Rattle.ocp_table.proofs.Tables.{table_is, few_from_room}
use Rattle.ocp_table.proofs.table.Table.restore.Goals as goal

-- there is a spare execution, since the table is not full
pub unwrap-spare-requires : goal.unwrap-spare-requires
unwrap-spare-requires g c =
    let sound = c.self.invariant.0.sound in
    let passed = passes c.args.id (record_of_saved c.args.saved.now) c.args.self.now (sym c.fault_before_program.ensures ∙ c.in_default.is) in
    let room = rw (← c.self.view_is) at passed.room in
    let few : slab_len c.self.inside.records < MAX_PROCEDURES = few_from_room c.self.inside.records _ (sym (len-contents id_of record_of c.self.inside.records sound.distinct)) room in
    c.pop.ensures.variant.1 (omega (arith, few, c.self.invariant.1.all))

pub resume-requires-clause-own : goal.resume-requires-clause-own
resume-requires-clause-own g c =
    let popped = All-pop (λ (e : Execution). HasMemoryOf c.self.inside.profile e.machine) c.self.inside.spares.items _ _ c.pop.ensures.items c.self.invariant.2.spare in
    rw c.unwrap-spare.ensures at popped.1

pub of_saved-requires-clause-breakpoints : goal.of_saved-requires-clause-breakpoints
of_saved-requires-clause-breakpoints g c =
    (passes c.args.id (record_of_saved c.args.saved.now) c.args.self.now (sym c.fault_before_program.ensures ∙ c.in_default.is)).breakpoints

pub of_saved-requires-clause-mailbox : goal.of_saved-requires-clause-mailbox
of_saved-requires-clause-mailbox g c =
    (passes c.args.id (record_of_saved c.args.saved.now) c.args.self.now (sym c.fault_before_program.ensures ∙ c.in_default.is)).words

-- a refused one is spare again
pub invariant_of-self : goal.invariant_of-self
invariant_of-self g c =
    let popped = All-pop (λ (e : Execution). HasMemoryOf c.self.inside.profile e.machine) c.self.inside.spares.items _ _ c.pop.ensures.items c.self.invariant.2.spare in (
      c.self.invariant.0,
      record {
        all = omega (arith, c.self.invariant.1.all, c.push_reserved.ensures.len, rw c.unwrap-spare.ensures at c.pop.ensures.cases);
        room = omega (arith, c.self.invariant.1.room, c.pop.ensures.capacity, c.push_reserved.ensures.capacity);
      },
      record {
        held = c.self.invariant.2.held;
        spare = subst (All (λ (e : Execution). HasMemoryOf c.self.inside.profile e.machine)) (sym c.push_reserved.ensures.items) (All-push (λ (e : Execution). HasMemoryOf c.self.inside.profile e.machine) _ _ popped.0 c.resume.ensures.own);
      },
    )

pub invariant_of-self-2 : goal.invariant_of-self-2
invariant_of-self-2 g c =
    let r = record_of_saved c.args.saved.now in
    let sound = c.self.invariant.0.sound in
    let passed = passes c.args.id r c.args.self.now (sym c.fault_before_program.ensures ∙ c.in_default.is) in
    let room = rw (← c.self.view_is) at passed.room in
    let few : slab_len c.self.inside.records < MAX_PROCEDURES = few_from_room c.self.inside.records _ (sym (len-contents id_of record_of c.self.inside.records sound.distinct)) room in
    let above = rw (← c.self.view_is) at (free_above c.args.self.now.records c.args.id passed.above) in
    let free : get (contents id_of record_of c.self.inside.records) (id_of c.of_saved.result) ≡ None = ap (get (contents id_of record_of c.self.inside.records)) c.of_saved.ensures.id ∙ above in
    let absent = IsAbsent-from_get id_of record_of c.self.inside.records (id_of c.of_saved.result) sound.distinct free in
    let new = Replaces-new id_of record_of c.self.inside.records _ _ c.insert_reserved-key.ensures.was_vacant absent in
    let put = contents-put id_of record_of c.self.inside.records c.insert_reserved-key.new.self c.insert_reserved-key.result _ sound.distinct new c.insert_reserved-key.ensures.updates in
    let popped = All-pop (λ (e : Execution). HasMemoryOf c.self.inside.profile e.machine) c.self.inside.spares.items _ _ c.pop.ensures.items c.self.invariant.2.spare in
    let places = rw (← c.self.view_is) at passed.places in
    let is = c.of_saved.ensures.record c.in_default-resume.ensures.ok in (
      record {
        sound = record {
          distinct = IsDistinct-put id_of record_of c.self.inside.records c.insert_reserved-key.new.self c.insert_reserved-key.result _ sound.distinct new c.insert_reserved-key.ensures.updates;
          few = omega (arith, c.insert_reserved-key.ensures.len, few);
          room = omega (arith, c.insert_reserved-key.ensures.capacity, sound.room);
        };
        places = fits-restored (contents id_of record_of c.self.inside.records) _ c.self.inside.outbox.items (id_of c.of_saved.result) r (put ∙ ap (insert (contents id_of record_of c.self.inside.records) (id_of c.of_saved.result)) is) free places;
      },
      record {
        all = omega (arith, c.self.invariant.1.all, c.insert_reserved-key.ensures.len, rw c.unwrap-spare.ensures at c.pop.ensures.cases);
        room = omega (arith, c.self.invariant.1.room, c.pop.ensures.capacity);
      },
      record {
        held = subst (AreOwn c.self.inside.profile) (sym put) (own-inserted c.self.inside.profile (contents id_of record_of c.self.inside.records) (id_of c.of_saved.result) (record_of c.of_saved.result) c.self.invariant.2.held (subst (λ (e : Execution). HasMemoryOf c.self.inside.profile e.machine) (sym c.of_saved.ensures.execution) c.resume.ensures.own));
        spare = popped.0;
      },
    )

pub returns-clause-ok : goal.returns-clause-ok
returns-clause-ok g c =
    let r = record_of_saved c.args.saved.now in
    let sound = c.self.invariant.0.sound in
    let passed = passes c.args.id r c.args.self.now (sym c.fault_before_program.ensures ∙ c.in_default.is) in
    let above = rw (← c.self.view_is) at (free_above c.args.self.now.records c.args.id passed.above) in
    let free : get (contents id_of record_of c.self.inside.records) (id_of c.of_saved.result) ≡ None = ap (get (contents id_of record_of c.self.inside.records)) c.of_saved.ensures.id ∙ above in
    let absent = IsAbsent-from_get id_of record_of c.self.inside.records (id_of c.of_saved.result) sound.distinct free in
    let new = Replaces-new id_of record_of c.self.inside.records _ _ c.insert_reserved-key.ensures.was_vacant absent in
    let put = contents-put id_of record_of c.self.inside.records c.insert_reserved-key.new.self c.insert_reserved-key.result _ sound.distinct new c.insert_reserved-key.ensures.updates in
    let is = c.of_saved.ensures.record c.in_default-resume.ensures.ok in
    rw (← c.self.view_is) (table_is _ _ _ _ _ (put ∙ ap (λ i. insert (contents id_of record_of c.self.inside.records) i (record_of c.of_saved.result)) c.of_saved.ensures.id ∙ ap (insert (contents id_of record_of c.self.inside.records) c.args.id) is) refl)

-- ---- the first fault

pub returns-in-Some-clause-err : goal.returns-in-Some-clause-err
returns-in-Some-clause-err g c =
    let r = record_of_saved c.args.saved.now in
    let t = c.args.self.now in
    first-some (fault_of_table c.args.id r.control.pending t) (fault_of_control t.profile r) (fault_of_program (load_result t.profile r.image) r) _ (sym c.fault_before_program.ensures ∙ c.in-Some.is)

pub returns-in-Err-clause-err : goal.returns-in-Err-clause-err
returns-in-Err-clause-err g c =
    let r = record_of_saved c.args.saved.now in
    let t = c.args.self.now in
    let profile = ap (λ p. p.profile) c.self.view_is in
    first-last (fault_of_table c.args.id r.control.pending t) (fault_of_control t.profile r) (fault_of_program (load_result t.profile r.image) r) (sym c.fault_before_program.ensures ∙ c.in_default.is)
    ∙ subst (λ p. fault_of_program (load_result p r.image) r ≡ Some c.in-Err.fault) profile c.in-Err.ensures.err

pub returns-clause-sound : goal.returns-clause-sound
returns-clause-sound g c =
    let r = record_of_saved c.args.saved.now in
    let t = c.args.self.now in
    let profile = ap (λ p. p.profile) c.self.view_is in
    first-last (fault_of_table c.args.id r.control.pending t) (fault_of_control t.profile r) (fault_of_program (load_result t.profile r.image) r) (sym c.fault_before_program.ensures ∙ c.in_default.is)
    ∙ subst (λ p. fault_of_program (load_result p r.image) r ≡ None) profile c.in_default-resume.ensures.sound
