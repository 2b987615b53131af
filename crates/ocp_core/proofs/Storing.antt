-- An event's answer and what a store has after it, by whether the event is accepted and the store is full.
use Rattle.std.proofs.Common.{◌≡◌, ℕ, zero, suc, true, false, cond, Bool, refl, sym, ap, subst, ◌∙◌}
use Rattle.std.specs.Prelude.{List, Some, Result, Err}
use Rattle.pus_fields.specs.declared.fault.Discard.{Discard}
use Rattle.ocp_table.specs.declared.answers.StepOutcome.{StepOutcome}
use Rattle.ocp_table.specs.declared.answers.StepOutcome.TheVariants as S
use Rattle.ocp_table.specs.declared.answers.Slice.{Slice}
use Rattle.ocp_debug.specs.declared.command.DebugFault.{DebugFault}
use Rattle.ocp_world.specs.declared.state.State.{State}
use Rattle.ocp_world.specs.World.{World, Event, Step, Drain}
use Rattle.ocp_world.specs.declared.answers.EngineFault.{EngineFault}
use Rattle.ocp_world.specs.declared.answers.EngineFault.TheVariants as engine
use Rattle.ocp_world.specs.Answers.{Answers}
use Rattle.ocp_world.specs.After.{Answer, Requested, Stepped, Commanded, after, is_accepted}
use Rattle.ocp_world.specs.Replay.{replay_from}
use Rattle.ocp_world.specs.Slice.{goes_on, next_outcome, slice_count, slice_last}
use Rattle.ocp_world.specs.Mirror.Answering.{IsDiscard, IsUndue}
use Rattle.ocp_world.specs.Mirror.State.{IsWorld}
use Rattle.ocp_core.specs.Log.{Entry, Steps, entry_for, events_of, full_answer, answer_with}
use Rattle.ocp_core.specs.Slice.{slice_with}
use Rattle.ocp_core.specs.Stores.{event_store, slice_store}
use Rattle.ocp_core.proofs.Journaling.{same_outcome}

-- ---- what is left of a value that becomes another if it is taken and there is room

module _ {X : Type 0} (taken full : Bool) (old done : X) where
  refused_left : taken ≡ false → old ≡ cond taken (cond full old done) old
  refused_left refused = ap (λ b. cond b (cond full old done) old) (sym refused)

  full_left : taken ≡ true → full ≡ true → old ≡ cond taken (cond full old done) old
  full_left is no_room = ap (λ b. cond b old done) (sym no_room) ∙ ap (λ b. cond b (cond full old done) old) (sym is)

  done_left : (new : X) → taken ≡ true → full ≡ false → new ≡ done → new ≡ cond taken (cond full old done) old
  done_left new is room same = same ∙ ap (λ b. cond b old done) (sym room) ∙ ap (λ b. cond b (cond full old done) old) (sym is)

module _ {S : Type 0} (world : S → World) (is_full : S → Entry → Bool) (with_one : S → Entry → S) (s : S) where
  -- what an event leaves
  module _ (e : Event) where
    abbrev taken : Bool
    taken = is_accepted (after (world s) e).answer

    pub refused_store : taken ≡ false → s ≡ event_store world is_full with_one s e
    refused_store = refused_left taken (is_full s (entry_for e)) s (with_one s (entry_for e))

    pub full_store : taken ≡ true → is_full s (entry_for e) ≡ true → s ≡ event_store world is_full with_one s e
    full_store = full_left taken (is_full s (entry_for e)) s (with_one s (entry_for e))

    pub done_store : (new : S) → taken ≡ true → is_full s (entry_for e) ≡ false → new ≡ with_one s (entry_for e) → new ≡ event_store world is_full with_one s e
    done_store = done_left taken (is_full s (entry_for e)) s (with_one s (entry_for e))

  -- what a slice leaves
  module _ (by id budget : ℕ) where
    abbrev begun : Bool
    begun = is_accepted (after (world s) (Step by id)).answer

    abbrev sliced : S
    sliced = with_one s (Steps by id (slice_count (world s) by id budget))

    pub refused_slice_store : begun ≡ false → s ≡ slice_store world is_full with_one s by id budget
    refused_slice_store = refused_left begun (is_full s (Steps by id 1)) s sliced

    pub full_slice_store : begun ≡ true → is_full s (Steps by id 1) ≡ true → s ≡ slice_store world is_full with_one s by id budget
    full_slice_store = full_left begun (is_full s (Steps by id 1)) s sliced

    pub done_slice_store : (new : S) (n : ℕ) → begun ≡ true → is_full s (Steps by id 1) ≡ false → n ≡ slice_count (world s) by id budget → new ≡ with_one s (Steps by id n) → new ≡ slice_store world is_full with_one s by id budget
    done_slice_store new n is room count same = done_left begun (is_full s (Steps by id 1)) s sliced new is room (same ∙ ap (λ k. with_one s (Steps by id k)) count)

-- ---- the answer of an event

module _ (full : Bool) (w : World) (e : Event) where
  abbrev answer : Answer
  answer = (after w e).answer

  pub refused_at : (a : Answer) → is_accepted answer ≡ false → a ≡ answer → a ≡ answer_with full w e
  refused_at a refused is = is ∙ ap (λ b. cond b (cond full (full_answer e) answer) answer) (sym refused)

  pub full_at : is_accepted answer ≡ true → full ≡ true → full_answer e ≡ answer_with full w e
  full_at taken no_room = ap (λ b. cond b (full_answer e) answer) (sym no_room) ∙ ap (λ b. cond b (cond full (full_answer e) answer) answer) (sym taken)

  pub done_at : (a : Answer) → is_accepted answer ≡ true → full ≡ false → a ≡ answer → a ≡ answer_with full w e
  done_at a taken room is = is ∙ ap (λ b. cond b (full_answer e) answer) (sym room) ∙ ap (λ b. cond b (cond full (full_answer e) answer) answer) (sym taken)

  -- a debugger's command that is refused
  pub fault_at : (fault : DebugFault) → answer ≡ Commanded (Err fault) → Commanded (Err fault) ≡ answer_with full w e
  fault_at fault is = refused_at (Commanded (Err fault)) (ap is_accepted is) (sym is)

  -- a request or a drain that is accepted, and finds room
  pub accepted_at : is_accepted answer ≡ true → full ≡ false → is_accepted (answer_with full w e) ≡ true
  accepted_at taken room = ap is_accepted (sym (done_at answer taken room refl)) ∙ taken

  pub answers_at : (r : Result (List (List ℕ)) EngineFault) → is_accepted answer ≡ true → full ≡ false → Answers r answer → Answers r (answer_with full w e)
  answers_at r taken room is = subst (Answers r) (done_at answer taken room refl) is

  -- a request that is discarded
  pub discarded_at : (cause : Discard) → IsDiscard answer (Some cause) → Answers (Err (engine.Discarded cause)) (answer_with full w e)
  discarded_at cause is = sym (refused_at (Requested (Err (engine.Discarded cause))) (ap is_accepted is) (sym is))

  -- a drain of nothing
  pub undue_at : IsUndue answer false → Answers (Err engine.NothingDue) (answer_with full w e)
  undue_at is = sym (refused_at (Requested (Err engine.NothingDue)) (ap is_accepted is) (sym is))

-- a drain of a state in which a completion waits
pub due_at : {A : Type 0} (w : World) (s : State A) (by time : ℕ) → IsWorld w s → (due : Bool) → ((w : World) (by time : ℕ) → IsWorld w s → IsUndue (after w (Drain by time)).answer due) → due ≡ true → is_accepted (after w (Drain by time)).answer ≡ true
due_at w s by time stands due told is = subst (IsUndue (after w (Drain by time)).answer) is (told w by time stands)

-- ---- the answer of a slice

module _ (full : Bool) (w : World) (by id budget : ℕ) where
  abbrev first : Answer
  first = (after w (Step by id)).answer

  abbrev whole : Slice
  whole = record { count = slice_count w by id budget; last = slice_last w by id S.Ran budget }

  abbrev none : StepOutcome → Slice
  none o = record { count = 0; last = o }

  pub refused_slice_at : (o : StepOutcome) → is_accepted first ≡ false → Stepped o ≡ first → none o ≡ slice_with full w by id budget
  refused_slice_at o refused is = ap none (same_outcome o (next_outcome w id) is) ∙ ap (λ b. cond b (cond full (none S.JournalFull) whole) (none (next_outcome w id))) (sym refused)

  pub full_slice_at : is_accepted first ≡ true → full ≡ true → none S.JournalFull ≡ slice_with full w by id budget
  full_slice_at taken no_room = ap (λ b. cond b (none S.JournalFull) whole) (sym no_room) ∙ ap (λ b. cond b (cond full (none S.JournalFull) whole) (none (next_outcome w id))) (sym taken)

  pub done_slice_at : (s : Slice) → is_accepted first ≡ true → full ≡ false → s.count ≡ slice_count w by id budget → s.last ≡ slice_last w by id S.Ran budget → s ≡ slice_with full w by id budget
  done_slice_at s taken room count last = (λ i. record { count = count i; last = last i }) ∙ ap (λ b. cond b (none S.JournalFull) whole) (sym room) ∙ ap (λ b. cond b (cond full (none S.JournalFull) whole) (none (next_outcome w id))) (sym taken)

-- ---- an instruction: a slice of one

one_count : (w : World) (by id : ℕ) → slice_count w by id 1 ≡ 1
one_count w by id = elim (goes_on w by id) as (λ b. cond b (suc zero) (suc zero) ≡ suc zero) [
  | true ↦ refl
  | false ↦ refl
]

one_last : (w : World) (by id : ℕ) → next_outcome w id ≡ slice_last w by id S.Ran 1
one_last w by id = elim (goes_on w by id) as (λ b. next_outcome w id ≡ cond b (next_outcome w id) (next_outcome w id)) [
  | true ↦ refl
  | false ↦ refl
]

abbrev slice_by : World → ℕ → ℕ → Bool → Bool → Slice
slice_by w by id taken full = cond taken (cond full (record { count = 0; last = S.JournalFull }) (record { count = slice_count w by id 1; last = slice_last w by id S.Ran 1 })) (record { count = 0; last = next_outcome w id })

answered_by : (w : World) (by id : ℕ) (taken full : Bool) → Stepped (slice_by w by id taken full).last ≡ cond taken (cond full (Stepped S.JournalFull) (Stepped (next_outcome w id))) (Stepped (next_outcome w id))
answered_by w by id true true = refl
answered_by w by id true false = ap Stepped (sym (one_last w by id))
answered_by w by id false full = refl

pub step_answered : (full : Bool) (w : World) (by id : ℕ) → Stepped (slice_with full w by id 1).last ≡ answer_with full w (Step by id)
step_answered full w by id = answered_by w by id (is_accepted (after w (Step by id)).answer) full

pub step_left : {S : Type 0} (world : S → World) (is_full : S → Entry → Bool) (with_one : S → Entry → S) (s : S) (by id : ℕ) → slice_store world is_full with_one s by id 1 ≡ event_store world is_full with_one s (Step by id)
step_left world is_full with_one s by id = ap (λ n. cond (is_accepted (after (world s) (Step by id)).answer) (cond (is_full s (Steps by id 1)) s (with_one s (Steps by id n))) s) (one_count (world s) by id)

-- ---- the world of a store that gains an entry

module _ {A S : Type 0} (world : S → World) (with_one : S → Entry → S) (law : (s : S) (e : Entry) → world (with_one s e) ≡ replay_from (world s) (events_of e)) where
  pub IsWorld-pushed : (old new : S) (e : Entry) (s : State A) → new ≡ with_one old e → IsWorld (replay_from (world old) (events_of e)) s → IsWorld (world new) s
  IsWorld-pushed old new e s is stands = subst (λ w. IsWorld w s) (sym (ap world is ∙ law old e)) stands
