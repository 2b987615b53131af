-- The marks of a journal that gains an entry are those before and the answer that is given.
use Rattle.std.proofs.Common.{◌≡◌, ◌≤◌, ◌+◌, ℕ, zero, suc, true, false, length, subst, arith, cond, List, [], ◌∷◌, ◌++◌, map, replicate, refl, sym, ap, ◌∙◌}
use Rattle.std.specs.Prelude.{◌==◌}
use Rattle.std.proofs.lemmas.Bool.Decides.{nat_tests}
use Rattle.std.proofs.lemmas.List.{map-append, length-map}
use Rattle.bpf_step.specs.Machine.{State as Machined}
use Rattle.ocp_table.specs.Records.{Rec}
use Rattle.ocp_world.specs.Settled.{RunsAlone}
use Rattle.ocp_core.specs.Tickets.{WorkContents, IsRun}
use Rattle.ocp_core.specs.Commits.{IsFresh}
use Rattle.ocp_core.proofs.Committing.{last_of_run, runs_answered}
use Rattle.ocp_table.specs.declared.answers.StepOutcome.{StepOutcome}
use Rattle.ocp_table.specs.declared.answers.StepOutcome.TheVariants as S
use Rattle.ocp_profile.specs.declared.profile.Profile.{Profile}
use Rattle.ocp_world.specs.World.{World, Event, Request, Step, Debug, Drain, Put, opening}
use Rattle.ocp_world.specs.After.{Stepped, After, after}
use Rattle.ocp_world.specs.Replay.{replay_from, answers}
use Rattle.ocp_world.specs.Slice.{next_outcome, goes_on, slice_count, slice_last}
use Rattle.ocp_core.specs.Log.{Log, Entry, events_of, expand, with_entry, entry_for, world_of}
use Rattle.ocp_core.specs.Marks.{last_outcome, mark_in, MarkedEntry, entries_with_marks_from, entries_with_marks}
use Rattle.ocp_core.specs.Journal.{entry_of, mark_of, entry_with_mark}
use Rattle.ocp_core.specs.declared.event.Entry as N
use Rattle.ocp_core.proofs.Replays.{replay_from-append}

abbrev with_mark : World → Entry → MarkedEntry
with_mark w e = record { entry = e; mark = mark_in w e }

-- the mark of an event's entry is its answer
pub event_mark : (w : World) (e : Event) → mark_in w (entry_for e) ≡ (after w e).answer
event_mark w (Request by time octets) = refl
event_mark w (Step by id) = refl
event_mark w (Debug by id command) = refl
event_mark w (Drain by time) = refl
event_mark w (Put by index value) = refl

-- the mark of a slice is its last outcome
pub slice_mark : (w : World) (by id : ℕ) (last : StepOutcome) (budget : ℕ) → last_outcome w by id last (slice_count w by id budget) ≡ slice_last w by id last budget
slice_mark w by id last zero = refl
slice_mark w by id last (suc budget) =
    let step : After = after w (Step by id) in
    elim (goes_on w by id) as (λ b. last_outcome w by id last (cond b (suc (slice_count step.world by id budget)) 1) ≡ cond b (slice_last step.world by id (next_outcome w id) budget) (next_outcome w id)) [
      | true ↦ slice_mark step.world by id (next_outcome w id) budget
      | false ↦ refl
    ]

marked_from-append : (w : World) (xs ys : List Entry) → entries_with_marks_from w (xs ++ ys) ≡ entries_with_marks_from w xs ++ entries_with_marks_from (replay_from w (expand xs)) ys
marked_from-append w [] ys = refl
marked_from-append w (x ∷ xs) ys =
    ap (λ rest. with_mark w x ∷ rest) (marked_from-append (replay_from w (events_of x)) xs ys
    ∙ ap (λ v. entries_with_marks_from (replay_from w (events_of x)) xs ++ entries_with_marks_from v ys) (sym (replay_from-append w (events_of x) (expand xs))))

pub marked-with_entry : (log : Log) (e : Entry) → entries_with_marks (with_entry log e) ≡ entries_with_marks log ++ with_mark (world_of log) e ∷ []
unfolding world_of entries_with_marks
marked-with_entry log e = marked_from-append (opening log.profile log.apid log.words) log.entries (e ∷ [])

pub marked-none : (log : Log) → log.entries ≡ [] → entries_with_marks log ≡ []
unfolding entries_with_marks
marked-none log none = ap (entries_with_marks_from (opening log.profile log.apid log.words)) none

-- the instructions of a commit were all answered that they ran
abbrev pub AreAnswered : Type 0
AreAnswered = (v : World) (by id n : ℕ) (r : Rec) (machine : Machined) → RunsAlone v id r n machine → answers v (replicate n (Step by id)) ≡ replicate n (Stepped S.Ran)

pub commit_mark : AreAnswered → (log : Log) (by : ℕ) (w : WorkContents) → (w.count ≡ 0 → ⊥) → IsFresh log w → IsRun w → last_outcome (world_of log) by w.id S.Ran w.count ≡ S.Ran
commit_mark law log by w some fresh run = last_of_run (world_of log) by w.id w.count (runs_answered law log by w some fresh run)

-- ---- a stored journal that gains an entry

-- there is room for one more
pub not_full : {X Y : Type 0} (f : X → Y) (xs : List X) (capacity : ℕ) → (length (map f xs) == capacity) ≡ false → length xs ≤ capacity → length xs + 1 ≤ capacity
not_full f xs capacity free within = below (length xs) capacity (subst (λ n. (n == capacity) ≡ false) (length-map xs f) free) within
  where
    below : (n m : ℕ) → (n == m) ≡ false → n ≤ m → n + 1 ≤ m
    below n m apart within = grind (arith, nat_tests)

module _ {A : Type 0} where
  abbrev pub stored : Profile → ℕ → ℕ → ℕ → List (N.Entry A) → Log
  stored profile apid words capacity entries = record { profile = profile; apid = apid; words = words; capacity = capacity; entries = map entry_of entries }

  -- its entry, and its mark if that is the answer to the entry's events
  pub marks_more : (items : List (N.Entry A)) (e : N.Entry A) (log : Log) → map entry_with_mark items ≡ entries_with_marks log → mark_of e ≡ mark_in (world_of log) (entry_of e) → map entry_with_mark (items ++ e ∷ []) ≡ entries_with_marks (with_entry log (entry_of e))
  marks_more items e log so_far is =
      map-append entry_with_mark items (e ∷ [])
      ∙ ap (λ xs. xs ++ entry_with_mark e ∷ []) so_far
      ∙ ap (λ a. entries_with_marks log ++ record { entry = entry_of e; mark = a } ∷ []) is
      ∙ sym (marked-with_entry log (entry_of e))

  -- the same for the journal that is stored
  pub marks_kept : (profile : Profile) (apid words capacity : ℕ) (xs ys : List (N.Entry A)) (e : N.Entry A) → ys ≡ xs ++ e ∷ [] → map entry_with_mark xs ≡ entries_with_marks (stored profile apid words capacity xs) → mark_of e ≡ mark_in (world_of (stored profile apid words capacity xs)) (entry_of e) → map entry_with_mark ys ≡ entries_with_marks (stored profile apid words capacity ys)
  marks_kept profile apid words capacity xs ys e are so_far is =
      ap (map entry_with_mark) are
      ∙ marks_more xs e (stored profile apid words capacity xs) so_far is
      ∙ ap (λ entries. entries_with_marks (record { profile = profile; apid = apid; words = words; capacity = capacity; entries = entries })) (sym (map-append entry_of xs (e ∷ [])))
      ∙ ap (λ zs. entries_with_marks (stored profile apid words capacity zs)) (sym are)
