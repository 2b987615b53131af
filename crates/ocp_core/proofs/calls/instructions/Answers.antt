use Rattle.std.proofs.Common.{ℕ, refl, sym, ap, subst, ◌∙◌, arith}
use Rattle.ocp_table.specs.declared.answers.StepOutcome.TheVariants.{Ran}
use Rattle.ocp_table.specs.Slices.{slice_of}
use Rattle.ocp_world.specs.World.{World}
use Rattle.ocp_world.specs.After.{Stepped}
use Rattle.ocp_world.specs.Round.{most_events}
use Rattle.ocp_world.specs.Mirror.State.{IsWorld}
use Rattle.ocp_core.specs.Marks.{last_outcome}
use Rattle.ocp_core.proofs.Marking.{slice_mark}
use Rattle.ocp_core.proofs.Counting.{counted_steps}
use Rattle.ocp_core.proofs.Growing.{slice_count_some, slice_count_within}
use Rattle.ocp_core.proofs.Rounds.{most_some, most_few, rounded}
use Rattle.ocp_core.proofs.Storing.{refused_slice_store, full_slice_store, done_slice_store, refused_slice_at, full_slice_at, done_slice_at, IsWorld-pushed}
use Rattle.ocp_core.proofs.Refused.{is_refused, is_taken, is_done_of, refused_last, refused_world, runs_so, refuses_so}
use Rattle.ocp_core.proofs.calls.instructions.Goals as goal

pub returns-in-Ok-clause-slice : goal.returns-in-Ok-clause-slice
returns-in-Ok-clause-slice g c =
    let w : World = g.S.Store.world c.args.store.now in
    let most : ℕ = most_events c.args.extent w c.args.by c.args.id c.args.budget in
    let taken = runs_so w c.args.state.now c.args.by c.args.id c.requires.stands c.running.result c.running.ensures.effect _ c.in-Ok.is in
    full_slice_at _ w c.args.by c.args.id most taken (sym c.is_full.ensures ∙ c.if-is_full.true)

pub returns-in-Ok-clause-round : goal.returns-in-Ok-clause-round
returns-in-Ok-clause-round g c is = rounded _ c.args.extent _ c.args.by c.args.id c.args.budget _ is (returns-in-Ok-clause-slice g c) refl

pub returns-in-Ok-clause-store : goal.returns-in-Ok-clause-store
returns-in-Ok-clause-store g c =
    let w : World = g.S.Store.world c.args.store.now in
    let most : ℕ = most_events c.args.extent w c.args.by c.args.id c.args.budget in
    let taken = runs_so w c.args.state.now c.args.by c.args.id c.requires.stands c.running.result c.running.ensures.effect _ c.in-Ok.is in
    full_slice_store g.S.Store.world g.S.Store.is_full g.S.Store.with_entry c.args.store.now c.args.by c.args.id most taken (sym c.is_full.ensures ∙ c.if-is_full.true)

pub returns-in-Err-clause-slice : goal.returns-in-Err-clause-slice
returns-in-Err-clause-slice g c =
    let w : World = g.S.Store.world c.args.store.now in
    let most : ℕ = most_events c.args.extent w c.args.by c.args.id c.args.budget in
    let refused = refuses_so w c.args.state.now c.args.by c.args.id c.requires.stands c.running.result c.running.ensures.effect c.in-Err.refusal c.in-Err.is in
    refused_slice_at _ w c.args.by c.args.id most c.in-Err.refusal refused.0 refused.1

pub returns-in-Err-clause-round : goal.returns-in-Err-clause-round
returns-in-Err-clause-round g c is = rounded _ c.args.extent _ c.args.by c.args.id c.args.budget _ is (returns-in-Err-clause-slice g c) refl

pub returns-in-Err-clause-store : goal.returns-in-Err-clause-store
returns-in-Err-clause-store g c =
    let w : World = g.S.Store.world c.args.store.now in
    let most : ℕ = most_events c.args.extent w c.args.by c.args.id c.args.budget in
    let refused = refuses_so w c.args.state.now c.args.by c.args.id c.requires.stands c.running.result c.running.ensures.effect c.in-Err.refusal c.in-Err.is in
    refused_slice_store g.S.Store.world g.S.Store.is_full g.S.Store.with_entry c.args.store.now c.args.by c.args.id most refused.0

pub returns-in-NotLoaded-clause-slice : goal.returns-in-NotLoaded-clause-slice
returns-in-NotLoaded-clause-slice g c =
    let w : World = g.S.Store.world c.args.store.now in
    let most : ℕ = most_events c.args.extent w c.args.by c.args.id c.args.budget in
    let some = most_some c.args.extent w c.args.by c.args.id c.args.budget c.requires.some in
    let refused = is_refused w c.args.by c.args.id c.instructions-round.result.last (c.instructions-round.ensures.done w c.args.by c.requires.stands) c.in-NotLoaded.is in
    refused_slice_at _ w c.args.by c.args.id most _ refused (ap Stepped (c.instructions-round.ensures.last w c.args.by c.requires.stands ∙ refused_last w c.args.by c.args.id refused most some))

pub returns-in-NotLoaded-clause-round : goal.returns-in-NotLoaded-clause-round
returns-in-NotLoaded-clause-round g c is = rounded _ c.args.extent _ c.args.by c.args.id c.args.budget _ is (returns-in-NotLoaded-clause-slice g c) refl

pub returns-in-NotLoaded-clause-store : goal.returns-in-NotLoaded-clause-store
returns-in-NotLoaded-clause-store g c =
    let w : World = g.S.Store.world c.args.store.now in
    let most : ℕ = most_events c.args.extent w c.args.by c.args.id c.args.budget in
    let refused = is_refused w c.args.by c.args.id c.instructions-round.result.last (c.instructions-round.ensures.done w c.args.by c.requires.stands) c.in-NotLoaded.is in
    refused_slice_store g.S.Store.world g.S.Store.is_full g.S.Store.with_entry c.args.store.now c.args.by c.args.id most refused

pub returns-in-NotLoaded-clause-world : goal.returns-in-NotLoaded-clause-world
returns-in-NotLoaded-clause-world g c =
    let w : World = g.S.Store.world c.args.store.now in
    let most : ℕ = most_events c.args.extent w c.args.by c.args.id c.args.budget in
    let some = most_some c.args.extent w c.args.by c.args.id c.args.budget c.requires.some in
    let refused = is_refused w c.args.by c.args.id c.instructions-round.result.last (c.instructions-round.ensures.done w c.args.by c.requires.stands) c.in-NotLoaded.is in
    subst (λ v. IsWorld v c.instructions-round.new.self) (refused_world w c.args.by c.args.id refused most c.instructions-round.result.count some (c.instructions-round.ensures.count w c.args.by c.requires.stands)) (c.instructions-round.ensures.world w c.args.by c.requires.stands)

pub push_steps-requires-clause-some : goal.push_steps-requires-clause-some
push_steps-requires-clause-some g c =
    let w : World = g.S.Store.world c.args.store.now in
    let most : ℕ = most_events c.args.extent w c.args.by c.args.id c.args.budget in
    omega (arith, c.instructions-round.ensures.count w c.args.by c.requires.stands, slice_count_some w c.args.by c.args.id most (most_some c.args.extent w c.args.by c.args.id c.args.budget c.requires.some))

pub push_steps-requires-clause-may : goal.push_steps-requires-clause-may
push_steps-requires-clause-may g c =
    let w : World = g.S.Store.world c.args.store.now in
    let most : ℕ = most_events c.args.extent w c.args.by c.args.id c.args.budget in
    let some = most_some c.args.extent w c.args.by c.args.id c.args.budget c.requires.some in
    let last = c.instructions-round.ensures.last w c.args.by c.requires.stands in
    let taken = is_taken w c.args.by c.args.id c.instructions-round.result.last most some last (is_done_of w c.args.by c.args.id c.instructions-round.result.last c.in_default.not-NotLoaded c.in_default.not-NotRunning c.in_default.not-JournalFull) in
    let count = c.instructions-round.ensures.count w c.args.by c.requires.stands in
    record {
      room = g.met.S.Store.fills_alike c.args.store.now c.args.by c.args.id _ 1 ∙ sym c.is_full.ensures ∙ c.if-is_full.false;
      accepted = counted_steps w c.args.by c.args.id c.instructions-round.result.count (c.instructions-round.ensures.events w c.args.by c.requires.stands taken);
      mark = ap Stepped (last ∙ sym (slice_mark w c.args.by c.args.id Ran most) ∙ ap (last_outcome w c.args.by c.args.id Ran) (sym count));
    }

pub returns-clause-slice : goal.returns-clause-slice
returns-clause-slice g c =
    let w : World = g.S.Store.world c.args.store.now in
    let most : ℕ = most_events c.args.extent w c.args.by c.args.id c.args.budget in
    let some = most_some c.args.extent w c.args.by c.args.id c.args.budget c.requires.some in
    let last = c.instructions-round.ensures.last w c.args.by c.requires.stands in
    let taken = is_taken w c.args.by c.args.id c.instructions-round.result.last most some last (is_done_of w c.args.by c.args.id c.instructions-round.result.last c.in_default.not-NotLoaded c.in_default.not-NotRunning c.in_default.not-JournalFull) in
    done_slice_at _ w c.args.by c.args.id most (slice_of c.instructions-round.result) taken (sym c.is_full.ensures ∙ c.if-is_full.false) (c.instructions-round.ensures.count w c.args.by c.requires.stands) last

pub returns-clause-round : goal.returns-clause-round
returns-clause-round g c is = rounded _ c.args.extent _ c.args.by c.args.id c.args.budget c.instructions-round.result is (returns-clause-slice g c) (c.instructions-round.ensures.step _ c.args.by c.requires.stands is)

pub returns-clause-store : goal.returns-clause-store
returns-clause-store g c =
    let w : World = g.S.Store.world c.args.store.now in
    let most : ℕ = most_events c.args.extent w c.args.by c.args.id c.args.budget in
    let some = most_some c.args.extent w c.args.by c.args.id c.args.budget c.requires.some in
    let last = c.instructions-round.ensures.last w c.args.by c.requires.stands in
    let taken = is_taken w c.args.by c.args.id c.instructions-round.result.last most some last (is_done_of w c.args.by c.args.id c.instructions-round.result.last c.in_default.not-NotLoaded c.in_default.not-NotRunning c.in_default.not-JournalFull) in
    done_slice_store g.S.Store.world g.S.Store.is_full g.S.Store.with_entry c.args.store.now c.args.by c.args.id most _ c.instructions-round.result.count taken (sym c.is_full.ensures ∙ c.if-is_full.false) (c.instructions-round.ensures.count w c.args.by c.requires.stands) c.push_steps.ensures

pub returns-clause-world : goal.returns-clause-world
returns-clause-world g c = IsWorld-pushed g.S.Store.world g.S.Store.with_entry g.met.S.Store.replays_entry c.args.store.now _ _ _ c.push_steps.ensures (c.instructions-round.ensures.world _ c.args.by c.requires.stands)

pub returns-clause-within : goal.returns-clause-within
returns-clause-within g c =
    let w : World = g.S.Store.world c.args.store.now in
    let most : ℕ = most_events c.args.extent w c.args.by c.args.id c.args.budget in
    omega (arith, c.instructions-round.ensures.count w c.args.by c.requires.stands, slice_count_within w c.args.by c.args.id most, most_few c.args.extent w c.args.by c.args.id c.args.budget)
