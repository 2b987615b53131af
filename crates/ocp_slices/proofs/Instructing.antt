-- What workers do to a world.
use Rattle.std.proofs.Common.{◌≡◌, ◌≤◌, ℕ, zero, suc, Bool, true, false, List, [], ◌∷◌, ◌++◌, length, drop, replicate, All, refl, sym, ap, subst, ◌∙◌}
use Rattle.std.specs.FinMap.{get}
use Rattle.std.proofs.lemmas.List.Elements.{All-head, All-tail}
use Rattle.std.proofs.lemmas.Grind.{flat_map-append}
use Rattle.ocp_table.specs.declared.answers.StepOutcome.{StepOutcome}
use Rattle.ocp_table.specs.declared.answers.StepOutcome.TheVariants as S
use Rattle.ocp_world.specs.World.{World, Event, Step, opening}
use Rattle.ocp_world.specs.After.{After, after, is_accepted, is_done}
use Rattle.ocp_world.specs.Replay.{replay_from}
use Rattle.ocp_world.specs.Slice.{is_running, next_outcome}
use Rattle.ocp_world.specs.NextRunning.{Runs}
use Rattle.ocp_core.specs.Log.{Log, Entry, Asked, Steps, Debugged, Drained, Wrote, events_of, expand, world_of}
use Rattle.ocp_core.specs.Marks.{MarkedEntry, last_outcome, mark_in, entries_with_marks_from, entries_with_marks}
use Rattle.ocp_core.proofs.Replays.{replay_from-append}
use Rattle.ocp_slices.specs.Closed.{IsWorked, HasWorked}
use Rattle.ocp_slices.specs.Instructing.{AreInstructions, IsInstructed}

-- ---- lists

append : (crew : ℕ) (w : World) (xs ys : List Event) → AreInstructions crew w xs → AreInstructions crew (replay_from w xs) ys → AreInstructions crew w (xs ++ ys)
append crew w [] ys one two = two
append crew w (x ∷ xs) ys one two = (one.0, append crew (after w x).world xs ys one.1 two)

-- the entries after others have the marks of a journal that begins in the world which those leave
drop_marked : (w : World) (xs ys : List Entry) → drop (length xs) (entries_with_marks_from w (xs ++ ys)) ≡ entries_with_marks_from (replay_from w (expand xs)) ys
drop_marked w [] ys = refl
drop_marked w (x ∷ xs) ys = drop_marked (replay_from w (events_of x)) xs ys ∙ ap (λ (v : World). entries_with_marks_from v ys) (sym (replay_from-append w (events_of x) (expand xs)))

-- ---- instructions

contrary : (b : Bool) → b ≡ false → b ≡ true → ⊥
contrary b off on = cc

module _ (refused : (w : World) (e : Event) → is_accepted (after w e).answer ≡ false → (after w e).world ≡ w) where
  -- an instruction that is refused is refused again
  stays : (w : World) (by id : ℕ) → is_accepted (after w (Step by id)).answer ≡ false → (o : StepOutcome) → is_done o ≡ false → (count : ℕ) → is_done (last_outcome w by id o count) ≡ false
  stays w by id again o none zero = none
  stays w by id again o none (suc count) =
      subst (λ (v : World). is_done (last_outcome v by id (next_outcome w id) count) ≡ false) (sym (refused w (Step by id) again)) (stays w by id again (next_outcome w id) again count)

  -- so if the last one is done, the first one is
  first : (w : World) (by id : ℕ) (o : StepOutcome) (count : ℕ) → is_done (last_outcome w by id o (suc count)) ≡ true → (b : Bool) → is_accepted (after w (Step by id)).answer ≡ b → b ≡ true
  first w by id o count done true is = refl
  first w by id o count done false is =
      let step : After = after w (Step by id) in
      let last : is_done (last_outcome step.world by id (next_outcome w id) count) ≡ false = subst (λ (v : World). is_done (last_outcome v by id (next_outcome w id) count) ≡ false) (sym (refused w (Step by id) is)) (stays w by id is (next_outcome w id) is count) in
      absurd (contrary (is_done (last_outcome step.world by id (next_outcome w id) count)) last done)

  module _ (idle : (w : World) (by id : ℕ) → is_running (get w.records id) ≡ false → is_accepted (after w (Step by id)).answer ≡ false) where
    -- one that is done is of a procedure that runs
    runs_by : (w : World) (by id : ℕ) → is_accepted (after w (Step by id)).answer ≡ true → (b : Bool) → is_running (get w.records id) ≡ b → b ≡ true
    runs_by w by id taken true is = refl
    runs_by w by id taken false is = absurd (contrary (is_accepted (after w (Step by id)).answer) (idle w by id is) taken)

    runs : (w : World) (by id : ℕ) → is_accepted (after w (Step by id)).answer ≡ true → Runs w.records id
    runs w by id taken = runs_by w by id taken (is_running (get w.records id)) refl

    steps : (crew by id : ℕ) → 1 ≤ by → by ≤ crew → (count : ℕ) (w : World) (o : StepOutcome) → is_done (last_outcome w by id o count) ≡ true → AreInstructions crew w (replicate count (Step by id))
    steps crew by id low high zero w o done = tt
    steps crew by id low high (suc count) w o done =
        let step : After = after w (Step by id) in
        let taken : is_accepted step.answer ≡ true = first w by id o count done (is_accepted step.answer) refl in
        ((low, high, runs w by id taken, taken), steps crew by id low high count step.world (next_outcome w id) done)

    entry : (crew budget : ℕ) (w : World) (e : Entry) → IsWorked crew budget e → is_accepted (mark_in w e) ≡ true → AreInstructions crew w (events_of e)
    entry crew budget w (Asked by time octets) worked done = absurd worked
    entry crew budget w (Steps by id count) worked done = steps crew by id worked.0 worked.1 count w S.Ran done
    entry crew budget w (Debugged by id command) worked done = absurd worked
    entry crew budget w (Drained by time) worked done = absurd worked
    entry crew budget w (Wrote by index value) worked done = absurd worked

    entries : (crew budget : ℕ) (w : World) (es : List Entry) → All (λ (e : Entry). IsWorked crew budget e) es → All (λ (m : MarkedEntry). is_accepted m.mark ≡ true) (entries_with_marks_from w es) → AreInstructions crew w (expand es)
    entries crew budget w [] worked done = tt
    entries crew budget w (e ∷ es) worked done =
        let next : World = replay_from w (events_of e) in
        let m : MarkedEntry = record { entry = e; mark = mark_in w e } in
        append crew w (events_of e) (expand es)
        (entry crew budget w e (All-head (λ (x : Entry). IsWorked crew budget x) e es worked) (All-head (λ (x : MarkedEntry). is_accepted x.mark ≡ true) m (entries_with_marks_from next es) done))
        (entries crew budget next es (All-tail (λ (x : Entry). IsWorked crew budget x) e es worked) (All-tail (λ (x : MarkedEntry). is_accepted x.mark ≡ true) m (entries_with_marks_from next es) done))

    pub instructed : (start now : Log) (crew budget turns : ℕ) → HasWorked start now crew budget turns → IsInstructed start now crew
    unfolding world_of entries_with_marks
    instructed start now crew budget turns worked =
        let more : List Entry = drop (length start.entries) now.entries in
        let grown : Log = record start { entries = start.entries ++ more } in
        let is : now ≡ grown = worked.closed.goes_on.journal in
        let split : expand (start.entries ++ more) ≡ expand start.entries ++ expand more = flat_map-append events_of start.entries more in
        let begin : World = opening start.profile start.apid start.words in
        let since : drop (length start.entries) (entries_with_marks now) ≡ entries_with_marks_from (world_of start) more =
        ap (λ (l : Log). drop (length start.entries) (entries_with_marks l)) is ∙ drop_marked begin start.entries more in
        record {
          events = expand more;
          instructions = entries crew budget (world_of start) more worked.worked
              (subst (λ (l : List MarkedEntry). All (λ (m : MarkedEntry). is_accepted m.mark ≡ true) l) since worked.done);
          world = ap world_of is ∙ ap (replay_from begin) split ∙ replay_from-append begin (expand start.entries) (expand more);
          journal = ap (λ (l : Log). expand l.entries) is ∙ split;
        }
