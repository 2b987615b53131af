-- A journal's replay, entry by entry.
use Rattle.std.proofs.Common.{◌≡◌, ◌+◌, ◌<◌, ℕ, zero, suc, List, [], ◌∷◌, ◌++◌, map, take, length, get_or, replicate, false, true, refl, sym, ap, subst, ◌∙◌, add-one}
use Rattle.std.specs.Prelude.{Result, Ok, Err, OnOk}
use Rattle.std.proofs.lemmas.List.{take_more, map-append}
use Rattle.ocp_profile.specs.declared.profile.Profile.{Profile}
use Rattle.ocp_world.specs.World.{World, Event, Step}
use Rattle.ocp_world.specs.After.{Requested, after, effect_of, is_accepted}
use Rattle.ocp_world.specs.declared.answers.EngineFault.{EngineFault}
use Rattle.ocp_world.specs.declared.answers.EngineFault.TheVariants as engine
use Rattle.ocp_world.specs.declared.state.State.{State}
use Rattle.ocp_world.specs.Mirror.State.{IsWorld, DoesIn, with_packets}
use Rattle.ocp_world.specs.Replay.{replay_from, replay}
use Rattle.ocp_core.specs.Log.{Log, Entry, events_of, expand, world_of}
use Rattle.ocp_core.specs.Mirror.Admitted.{HasMemory}
use Rattle.ocp_core.proofs.Replays.{replay_from-append, expand-with_entry, length-expand-with_entry}

-- one more instruction at the end
steps-suc : (w : World) (by id n : ℕ) → replay_from w (replicate (suc n) (Step by id)) ≡ (after (replay_from w (replicate n (Step by id))) (Step by id)).world
steps-suc w by id zero = refl
steps-suc w by id (suc n) = steps-suc (after w (Step by id)).world by id n

pub replay_from-steps : (w : World) (by id n : ℕ) → replay_from w (replicate (n + 1) (Step by id)) ≡ (after (replay_from w (replicate n (Step by id))) (Step by id)).world
replay_from-steps w by id n = rw add-one (steps-suc w by id n)

-- no event changes the application process
pub apid-replay_from : (w : World) (es : List Event) → (replay_from w es).apid ≡ w.apid
apid-replay_from w [] = refl
apid-replay_from w (e ∷ es) = apid-replay_from (after w e).world es

-- one more entry
module _ {X : Type 0} (entry_of : X → Entry) (profile : Profile) (apid words : ℕ) (xs : List X) (i : ℕ) (x : X) (within : i < length xs) (is : x ≡ get_or xs i x) where
  pub replay-entry : replay profile apid words (expand (map entry_of (take (i + 1) xs))) ≡ replay_from (replay profile apid words (expand (map entry_of (take i xs)))) (events_of (entry_of x))
  replay-entry =
      ap (λ ys. replay profile apid words (expand (map entry_of ys))) (take_more xs i x within)
      ∙ ap (λ y. replay profile apid words (expand (map entry_of (take i xs ++ y ∷ [])))) (sym is)
      ∙ ap (λ es. replay profile apid words (expand es)) (map-append entry_of (take i xs) (x ∷ []))
      ∙ ap (replay profile apid words) (expand-with_entry (map entry_of (take i xs)) (entry_of x))
      ∙ replay_from-append _ (expand (map entry_of (take i xs))) (events_of (entry_of x))

  pub length-entry : length (expand (map entry_of (take (i + 1) xs))) ≡ length (expand (map entry_of (take i xs))) + length (events_of (entry_of x))
  length-entry =
      ap (λ ys. length (expand (map entry_of ys))) (take_more xs i x within)
      ∙ ap (λ y. length (expand (map entry_of (take i xs ++ y ∷ [])))) (sym is)
      ∙ ap (λ es. length (expand es)) (map-append entry_of (take i xs) (x ∷ []))
      ∙ length-expand-with_entry (map entry_of (take i xs)) (entry_of x)

-- a journal's world is the replay of all its entries
replayed : (log : Log) → replay log.profile log.apid log.words (expand log.entries) ≡ world_of log
unfolding world_of
replayed log = refl

pub replayed_by : (log : Log) (profile : Profile) (apid words : ℕ) (entries : List Entry) → profile ≡ log.profile → apid ≡ log.apid → words ≡ log.words → entries ≡ log.entries → replay profile apid words (expand entries) ≡ world_of log
replayed_by log profile apid words entries kind named pool all =
    ap (λ p. replay p apid words (expand entries)) kind
    ∙ ap (λ a. replay log.profile a words (expand entries)) named
    ∙ ap (λ n. replay log.profile log.apid n (expand entries)) pool
    ∙ ap (λ es. replay log.profile log.apid log.words (expand es)) all
    ∙ replayed log

-- a request or a drain that finds memory leaves the state of the world after it, since one that is refused changes nothing
module _ {A : Type 0} (keeps : (w : World) (e : Event) → is_accepted (after w e).answer ≡ false → (after w e).world ≡ w) (w : World) (e : Event) (s : State A) where
  refused_stands : (fault : EngineFault) → (after w e).answer ≡ Requested (Err fault) → IsWorld w s → IsWorld (after w e).world s
  refused_stands fault told stands = subst (λ v. IsWorld v s) (sym (keeps w e (ap is_accepted told))) stands

  pub stands_after : (r : Result (List (List ℕ)) EngineFault) → HasMemory r → DoesIn w (effect_of w e) r s → IsWorld (after w e).world s
  stands_after (Ok reports) has does = does.1
  stands_after (Err engine.Memory) has does = absurd has
  stands_after (Err (engine.Discarded cause)) has does = refused_stands (engine.Discarded cause) does.0 does.1
  stands_after (Err engine.JournalFull) has does = refused_stands engine.JournalFull does.0 does.1
  stands_after (Err engine.NothingDue) has does = refused_stands engine.NothingDue does.0 does.1

-- one whose keeper finds memory does so whatever is kept of the packets
pub memory_found : {X : Type 0} (r : Result X EngineFault) (packets : List (List ℕ)) → (r ≡ Err engine.Memory → false ≡ true) → HasMemory (with_packets r packets)
memory_found (Ok kept) packets finds = tt
memory_found (Err engine.Memory) packets finds = let refused = finds refl in cc
memory_found (Err (engine.Discarded cause)) packets finds = tt
memory_found (Err engine.JournalFull) packets finds = tt
memory_found (Err engine.NothingDue) packets finds = tt

-- what follows from what holds of an Ok result
pub where_ok : {X E : Type 0} {P Q : Type 0} → (r : Result X E) → (P → Q) → OnOk r P → OnOk r Q
where_ok (Ok x) so p = so p
where_ok (Err e) so p = tt
