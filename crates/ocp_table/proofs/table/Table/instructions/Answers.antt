use Rattle.std.proofs.Common.{◌≡◌, true, false, refl, sym, ap, ◌∙◌}
use Rattle.std.specs.FinMap as map
use Rattle.ocp_table.specs.Shown.{id_of, record_of}
use Rattle.ocp_table.specs.Slices.{is_traced, is_running, most_events, slice_of, step_at}
use Rattle.ocp_table.specs.Mirror.Contents.{contents}
use Rattle.ocp_table.proofs.Fitting.{fits-sliced}
use Rattle.ocp_table.proofs.Held.{place_at, records_at, slice_found, stocked-at}
use Rattle.ocp_table.proofs.Memories.{own-sliced}
use Rattle.ocp_table.proofs.Slicing.{absent-count, absent-last, absent-store, absent-step-ended, most-some}
use Rattle.ocp_table.proofs.table.Table.instructions.Goals as goal

pub returns-in_default-clause-untraced : goal.returns-in_default-clause-untraced
returns-in_default-clause-untraced g c = rw (← c.self.view_is) (ap is_traced c.in_default.ensures.absent)

pub returns-in_default-clause-count : goal.returns-in_default-clause-count
returns-in_default-clause-count g c = rw (← c.self.view_is) (absent-count c.args.id (contents id_of record_of c.self.inside.records) c.self.inside.outbox.items c.args.pool.now (most_events c.args.extent c.args.id (record { records = contents id_of record_of c.self.inside.records; outbox = c.self.inside.outbox.items; pool = c.args.pool.now }) c.args.budget) c.in_default.ensures.absent (most-some c.args.extent c.args.id c.args.budget _ c.requires))

pub returns-in_default-clause-last : goal.returns-in_default-clause-last
returns-in_default-clause-last g c = rw (← c.self.view_is) (absent-last c.args.id (contents id_of record_of c.self.inside.records) c.self.inside.outbox.items c.args.pool.now (most_events c.args.extent c.args.id (record { records = contents id_of record_of c.self.inside.records; outbox = c.self.inside.outbox.items; pool = c.args.pool.now }) c.args.budget) c.in_default.ensures.absent (most-some c.args.extent c.args.id c.args.budget _ c.requires))

pub returns-in_default-clause-done : goal.returns-in_default-clause-done
returns-in_default-clause-done g c = rw (← c.self.view_is) (λ on.
    let off : false ≡ true = sym (ap is_running c.in_default.ensures.absent) ∙ on in
    absurd (cc))

pub returns-in_default-clause-store : goal.returns-in_default-clause-store
returns-in_default-clause-store g c = rw (← c.self.view_is) (absent-store c.args.id _ c.self.inside.outbox.items c.args.pool.now c.in_default.ensures.absent)

pub returns-then-index-clause-traced : goal.returns-then-index-clause-traced
returns-then-index-clause-traced g c = rw (← c.self.view_is) (ap is_traced (c.in-Some.ensures.found.there _ c.index.ensures) ∙ c.if-index.true)

pub instructions-requires-clause-place : goal.instructions-requires-clause-place
instructions-requires-clause-place g c = place_at id_of record_of c.self.inside.records c.self.inside.outbox.items _ c.args.id _ c.in-Some.ensures.found c.index_mut.ensures.value c.self.invariant.0

pub invariant_of-self : goal.invariant_of-self
invariant_of-self g c = (
  record {
    sound = c.in-Some.ensures.found.sound _ (c.instructions.ensures.id ∙ c.in-Some.ensures.found.named _ c.index_mut.ensures.value);
    places = fits-sliced (slice_of c.instructions.result) _ (record { records = contents id_of record_of c.self.inside.records; outbox = c.self.inside.outbox.items; pool = c.args.pool.now }) _ c.self.invariant.0.places ((slice_found id_of record_of c.self.inside.records _ c.args.id c.in-Some.ensures.found _ c.index_mut.ensures.value c.args.extent c.args.budget c.self.inside.outbox.items _ c.args.pool.now _ _ _ c.instructions.ensures.slice).store ∙ ap (λ x. record { records = x; outbox = c.instructions.new.outbox.items; pool = c.instructions.new.pool }) (sym (records_at id_of record_of c.self.inside.records c.self.inside.outbox.items _ c.args.id _ c.in-Some.ensures.found c.index_mut.ensures.value c.self.invariant.0 _ c.instructions.ensures.id _ refl)));
  },
  stocked-at _ _ _ _ _ c.index_mut.ensures.value c.self.invariant.1,
  record {
    held = own-sliced c.self.inside.profile c.machines_keep_their_addresses.ensures.stepped c.machines_keep_their_addresses.ensures.answered c.args.id c.instructions.result.count (record { records = contents id_of record_of c.self.inside.records; outbox = c.self.inside.outbox.items; pool = c.args.pool.now }) _ c.self.invariant.2.held ((slice_found id_of record_of c.self.inside.records _ c.args.id c.in-Some.ensures.found _ c.index_mut.ensures.value c.args.extent c.args.budget c.self.inside.outbox.items _ c.args.pool.now _ _ _ c.instructions.ensures.slice).store ∙ ap (λ x. record { records = x; outbox = c.instructions.new.outbox.items; pool = c.instructions.new.pool }) (sym (records_at id_of record_of c.self.inside.records c.self.inside.outbox.items _ c.args.id _ c.in-Some.ensures.found c.index_mut.ensures.value c.self.invariant.0 _ c.instructions.ensures.id _ refl)));
    spare = c.self.invariant.2.spare;
  },
)

pub returns-clause-untraced : goal.returns-clause-untraced
returns-clause-untraced g c = rw (← c.self.view_is) (ap is_traced (c.in-Some.ensures.found.there _ c.index.ensures) ∙ c.if-index.false)

pub returns-clause-count : goal.returns-clause-count
returns-clause-count g c = rw (← c.self.view_is) (slice_found id_of record_of c.self.inside.records _ c.args.id c.in-Some.ensures.found _ c.index_mut.ensures.value c.args.extent c.args.budget c.self.inside.outbox.items _ c.args.pool.now _ _ _ c.instructions.ensures.slice).count

pub returns-clause-last : goal.returns-clause-last
returns-clause-last g c = rw (← c.self.view_is) (slice_found id_of record_of c.self.inside.records _ c.args.id c.in-Some.ensures.found _ c.index_mut.ensures.value c.args.extent c.args.budget c.self.inside.outbox.items _ c.args.pool.now _ _ _ c.instructions.ensures.slice).last

pub returns-clause-done : goal.returns-clause-done
returns-clause-done g c = rw (← c.self.view_is) (λ on.
    c.instructions.ensures.done (sym (ap is_running (c.in-Some.ensures.found.there _ c.index_mut.ensures.value)) ∙ on))

pub returns-clause-store : goal.returns-clause-store
returns-clause-store g c = rw (← c.self.view_is) ((slice_found id_of record_of c.self.inside.records _ c.args.id c.in-Some.ensures.found _ c.index_mut.ensures.value c.args.extent c.args.budget c.self.inside.outbox.items _ c.args.pool.now _ _ _ c.instructions.ensures.slice).store ∙ ap (λ x. record { records = x; outbox = c.instructions.new.outbox.items; pool = c.instructions.new.pool }) (sym (records_at id_of record_of c.self.inside.records c.self.inside.outbox.items _ c.args.id _ c.in-Some.ensures.found c.index_mut.ensures.value c.self.invariant.0 _ c.instructions.ensures.id _ refl)))

pub returns-in_default-clause-step : goal.returns-in_default-clause-step
returns-in_default-clause-step g c = rw (← c.self.view_is) (λ is. absent-step-ended c.args.id _ c.self.inside.outbox.items c.args.pool.now c.in_default.ensures.absent)

pub returns-clause-step : goal.returns-clause-step
returns-clause-step g c =
    let m = contents id_of record_of c.self.inside.records in
    let found = c.in-Some.ensures.found in
    let named = found.named _ c.index_mut.ensures.value in
    rw (← c.self.view_is) (λ is. c.instructions.ensures.step is m (ap (map.get m) named ∙ found.there _ c.index_mut.ensures.value) ∙ ap (λ i. step_at i c.instructions.result.count (record { records = m; outbox = c.self.inside.outbox.items; pool = c.args.pool.now })) named)
