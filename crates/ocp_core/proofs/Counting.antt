-- Accepted events are counted.
use Rattle.std.proofs.Common.{◌≡◌, ◌≤◌, ◌+◌, ℕ, true, false, cond, List, [], ◌∷◌, ◌++◌, Bool, length, map, take, replicate, refl, sym, ap, subst, ◌∙◌, arith, length-append}
use Rattle.std.specs.Prelude.{Ok, Err, drop}
use Rattle.std.proofs.lemmas.List.{length-replicate, take-append-drop, map-append}
use Rattle.std.proofs.lemmas.Grind.{flat_map-append}
use Rattle.ocp_world.specs.World.{World, Event, Step}
use Rattle.ocp_world.specs.Effect.{Reply, Discards, Sends, Steps, Commands, Undue, Puts}
use Rattle.ocp_world.specs.After.{after, answer_by, events_by, effect_of, is_accepted}
use Rattle.ocp_world.specs.Replay.{replay_from, replay}
use Rattle.ocp_core.specs.Log.{Entry, Log, events_of, expand, with_entry, world_of}
use Rattle.ocp_core.specs.Mirror.Counted.{AreCounted}
use Rattle.ocp_core.proofs.Replays.{replay_from-append, world_of-with_entry}

-- ---- one event

counted_by : (reply : Reply) (w : World) → is_accepted (answer_by reply w) ≡ true → events_by reply w.events ≡ w.events + 1
counted_by (Discards cause) w taken = cc
counted_by (Sends dispatches) w taken = refl
counted_by (Steps outcome) w taken = ap (λ b. cond b (w.events + 1) w.events) taken
counted_by (Commands (Ok done)) w taken = refl
counted_by (Commands (Err fault)) w taken = cc
counted_by Undue w taken = cc
counted_by (Puts (Ok done)) w taken = refl
counted_by (Puts (Err fault)) w taken = cc

-- an accepted event is one more
pub counted : (w : World) (e : Event) → is_accepted (after w e).answer ≡ true → AreCounted w (e ∷ [])
counted w e taken = counted_by (effect_of w e).reply w taken

-- and any event is at most one more
at_most : (b : Bool) (n : ℕ) → cond b (n + 1) n ≤ n + 1
at_most true n = omega arith
at_most false n = omega arith

one_more : (reply : Reply) (n : ℕ) → events_by reply n ≤ n + 1
one_more (Discards cause) n = omega arith
one_more (Sends dispatches) n = omega arith
one_more (Steps outcome) n = at_most _ n
one_more (Commands (Ok done)) n = omega arith
one_more (Commands (Err fault)) n = omega arith
one_more Undue n = omega arith
one_more (Puts (Ok done)) n = omega arith
one_more (Puts (Err fault)) n = omega arith

-- ---- events of a list

-- n instructions, each of them accepted
pub counted_steps : (w : World) (by id n : ℕ) → (replay_from w (replicate n (Step by id))).events ≡ w.events + n → AreCounted w (replicate n (Step by id))
counted_steps w by id n is = is ∙ ap (λ k. w.events + k) (sym (length-replicate n (Step by id)))

grows : (w : World) (es : List Event) → (replay_from w es).events ≤ w.events + length es
grows w [] = omega arith
grows w (e ∷ es) = omega (arith, one_more (effect_of w e).reply w.events, grows (after w e).world es)

-- if all events of a list are accepted, so are the first ones
pub first_counted : (w : World) (xs ys : List Event) → AreCounted w (xs ++ ys) → AreCounted w xs
first_counted w xs ys all =
    let whole : (replay_from (replay_from w xs) ys).events ≡ w.events + length (xs ++ ys) = ap (λ v. v.events) (sym (replay_from-append w xs ys)) ∙ all in
    omega (arith, whole, length-append xs ys, grows w xs, grows (replay_from w xs) ys)

-- the first entries of a list, each seen as an entry of a journal
module _ {X : Type 0} (entry_of : X → Entry) (w : World) (xs : List X) (i : ℕ) where
  parts : expand (map entry_of xs) ≡ expand (map entry_of (take i xs)) ++ expand (map entry_of (drop i xs))
  parts =
      ap (λ ys. expand (map entry_of ys)) (sym (take-append-drop i xs))
      ∙ ap expand (map-append entry_of (take i xs) (drop i xs))
      ∙ flat_map-append events_of (map entry_of (take i xs)) (map entry_of (drop i xs))

  pub first_entries_counted : AreCounted w (expand (map entry_of xs)) → AreCounted w (expand (map entry_of (take i xs)))
  first_entries_counted all = first_counted w (expand (map entry_of (take i xs))) (expand (map entry_of (drop i xs))) (subst (AreCounted w) parts all)

-- ---- a journal that gains an entry

pub number_more : (log new : Log) (e : Entry) → new ≡ with_entry log e → AreCounted (world_of log) (events_of e) → (world_of new).events ≡ (world_of log).events + length (events_of e)
number_more log new e is counted = ap (λ l. (world_of l).events) is ∙ ap (λ v. v.events) (world_of-with_entry log e) ∙ counted

pub number_none : (new : Log) → new.entries ≡ [] → (world_of new).events ≡ 0
unfolding world_of
number_none new none = ap (λ entries. (replay new.profile new.apid new.words (expand entries)).events) none
