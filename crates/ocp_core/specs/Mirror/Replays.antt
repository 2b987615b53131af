-- A journal that gains an entry is replayed further.
use Rattle.std.proofs.Common.{◌≡◌, List, [], ◌∷◌, ◌++◌, refl, ap, ◌∙◌}
use Rattle.std.proofs.lemmas.List.{append-nil}
use Rattle.std.proofs.lemmas.Grind.{flat_map-append}
use Rattle.ocp_world.specs.World.{World, Event}
use Rattle.ocp_world.specs.After.{after}
use Rattle.ocp_world.specs.Replay.{replay_from, replay}
use Rattle.ocp_core.specs.Log.{Log, Entry, events_of, expand, with_entry, world_of}

pub replay_from-append : (w : World) (xs ys : List Event) →
    replay_from w (xs ++ ys) ≡ replay_from (replay_from w xs) ys
replay_from-append w [] ys = refl
replay_from-append w (x ∷ xs) ys = replay_from-append (after w x).world xs ys

pub expand-with_entry : (entries : List Entry) (e : Entry) →
    expand (entries ++ e ∷ []) ≡ expand entries ++ events_of e
expand-with_entry entries e =
    flat_map-append events_of entries (e ∷ [])
    ∙ ap (λ es. expand entries ++ es) (append-nil (events_of e))

-- a journal with one more entry is replayed by that entry's events
pub world_of-with_entry : (log : Log) (e : Entry) →
    world_of (with_entry log e) ≡ replay_from (world_of log) (events_of e)
unfolding world_of
world_of-with_entry log e =
    ap (replay log.profile log.apid log.words) (expand-with_entry log.entries e)
    ∙ replay_from-append _ (expand log.entries) (events_of e)
