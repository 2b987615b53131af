use Rattle.std.proofs.Common.{◌≡◌, ◌<◌, ◌≤◌, ◌∙◌, map, take, length, refl, sym, ap, subst, arith}
use Rattle.std.proofs.lemmas.List.{take_all}
use Rattle.ocp_world.specs.World.{opening}
use Rattle.ocp_world.specs.Replay.{replay}
use Rattle.ocp_world.specs.Mirror.State.{IsWorld}
use Rattle.ocp_core.specs.Log.{expand}
use Rattle.ocp_core.specs.Journal.{entry_of}
use Rattle.ocp_core.specs.Mirror.Counted.{AreCounted}
use Rattle.ocp_core.proofs.Counting.{first_entries_counted}
use Rattle.ocp_core.proofs.Replaying.{apid-replay_from, replay-entry, length-entry, replayed_by}
use Rattle.ocp_core.proofs.replay.enter_all.Goals as goal

pub loop-entry-init : goal.loop-entry-init
loop-entry-init g c = record {
  stands = c.requires;
  counted = refl;
  bounded = omega arith;
}

pub loop-entry-preserved : goal.loop-entry-preserved
loop-entry-preserved g c =
    let journal = c.args.journal.now in
    let items = c.entries-entries.result.now in
    let i = c.loop-entry.entry-index in
    let within : i < length items = omega arith in
    let start = opening journal.profile journal.apid journal.words in
    let before = expand (map entry_of (take i items)) in
    let accepted =
    ap (λ w. w.events) (replayed_by journal journal.profile journal.apid journal.words (map entry_of items) refl refl refl c.entries-entries.ensures.value)
    ∙ c.entries-entries.ensures.accepted
    ∙ ap (λ es. length (expand es)) (sym c.entries-entries.ensures.value) in
    let all : AreCounted start (expand (map entry_of items)) = omega (arith, accepted) in
    let so_far = first_entries_counted entry_of start items i all in
    let numbered : c.loop-entry.event ≡ (replay journal.profile journal.apid journal.words before).events = omega (arith, so_far, c.loop-entry.invariant.counted) in
    let more = length-entry entry_of journal.profile journal.apid journal.words items i c.entry-item.result within c.entry-item.is in
    record {
      stands = subst (λ v. IsWorld v c.enter.new.state) (sym (replay-entry entry_of journal.profile journal.apid journal.words items i c.entry-item.result within c.entry-item.is))
          (c.enter.ensures (replay journal.profile journal.apid journal.words before) c.loop-entry.invariant.stands (apid-replay_from start before ∙ sym c.apid-apid.ensures.value) numbered);
      counted = omega (arith, c.loop-entry.invariant.counted, c.events-event.ensures.value, more);
      bounded = omega (arith, c.loop-entry.invariant.bounded, c.events-event.ensures.bound);
    }

pub returns : goal.returns
returns g c =
    let journal = c.args.journal.now in
    let items = c.entries-entries.result.now in
    let all : length items ≤ c.loop-entry.entry-index = omega arith in
    let stands = subst (λ xs. IsWorld (replay journal.profile journal.apid journal.words (expand (map entry_of xs))) c.loop-entry.state) (take_all c.loop-entry.entry-index items all) c.loop-entry.invariant.stands in
    subst (λ v. IsWorld v c.loop-entry.state) (replayed_by journal journal.profile journal.apid journal.words (map entry_of items) refl refl refl c.entries-entries.ensures.value) stands
