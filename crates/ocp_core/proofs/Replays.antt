-- Replays of lists of events and of journals, one after another.
use Rattle.std.proofs.Common.{◌≡◌, ◌+◌, List, [], ◌∷◌, ◌++◌, length, refl, ap, ◌∙◌, length-append}
use Rattle.ocp_world.specs.World.{World, Event}
use Rattle.ocp_world.specs.After.{after}
use Rattle.ocp_world.specs.Replay.{replay_from, answers}
use Rattle.ocp_core.specs.Log.{Entry, events_of, expand}
pub use Rattle.ocp_core.specs.Mirror.Replays.{replay_from-append, expand-with_entry, world_of-with_entry}

pub answers-append : (w : World) (xs ys : List Event) → answers w (xs ++ ys) ≡ answers w xs ++ answers (replay_from w xs) ys
answers-append w [] ys = refl
answers-append w (x ∷ xs) ys = ap (λ rest. (after w x).answer ∷ rest) (answers-append (after w x).world xs ys)

pub length-expand-with_entry : (entries : List Entry) (e : Entry) → length (expand (entries ++ e ∷ [])) ≡ length (expand entries) + length (events_of e)
length-expand-with_entry entries e = ap length (expand-with_entry entries e) ∙ length-append (expand entries) (events_of e)
