-- The events of a run: what each leaves, and one more event.
use Rattle.std.proofs.Common.{◌≡◌, ◌≢◌, ℕ, zero, suc, ◌+◌, ◌<◌, Bool, true, false, cond, List, [], ◌∷◌, ◌++◌, Option, Some, None, map, take, length, get_or, refl, sym, ap, subst, ◌∙◌}
use Rattle.std.specs.Prelude.{Result, Ok, Err, slice_get}
use Rattle.std.specs.Option.{option_map}
use Rattle.std.proofs.lemmas.List.{take_more, map-append}
use Rattle.std.proofs.lemmas.Option.{slice_get-get_or, slice_get-map}
use Rattle.ocp_table.specs.declared.answers.StepOutcome.{StepOutcome}
use Rattle.ocp_table.specs.declared.answers.StepOutcome.TheVariants as S
use Rattle.ocp_world.specs.declared.answers.EngineFault.{EngineFault}
use Rattle.ocp_world.specs.declared.answers.EngineFault.TheVariants as engine
use Rattle.ocp_debug.specs.declared.command.DebugFault.{DebugFault}
use Rattle.ocp_debug.specs.declared.command.DebugFault.TheVariants as debug
use Rattle.ocp_world.specs.declared.answers.PutFault.{PutFault}
use Rattle.ocp_world.specs.declared.answers.PutFault.TheVariants as put
use Rattle.ocp_world.specs.World.{World, Event, Request, Step, Debug, Drain, Put}
use Rattle.ocp_world.specs.After.{Answer, Requested, Stepped, Commanded, Written, after, is_accepted}
use Rattle.ocp_world.specs.Replay.{answers, replay_from}
use Rattle.ocp_core.specs.Log.{Log, world_of, is_full, with_entry, entry_for, full_answer, answer_in, log_after}
use Rattle.ocp_core.specs.declared.answers.RunRefusal.{RunRefusal}
use Rattle.ocp_core.specs.declared.answers.RunRefusal.TheVariants as run
use Rattle.ocp_core.specs.Receipts.{Enters}
use Rattle.ocp_core.specs.Running.{log_after_all, finds_full, HasRoom, TakesMemory, IsRefusedBy, IsDone, refusal_of, StopsAt}
use Rattle.ocp_core.proofs.Replays.{world_of-with_entry, replay_from-append, answers-append}
use Rattle.ocp_core.proofs.Storing.{refused_store}

true_false : true ≡ false → ⊥
true_false e = cc

-- ---- an event that is not refused because the journal is full

abbrev pub full_by : Option RunRefusal → Bool
full_by (Some run.JournalFull) = true
full_by (Some run.Memory) = false
full_by None = false

abbrev pub is_full_answer : Answer → Bool
is_full_answer a = full_by (refusal_of a)

-- the answer of a full journal
full_told : (e : Event) → (is_full_answer (full_answer e) ≡ true) × (is_accepted (full_answer e) ≡ false)
full_told (Request by time octets) = (refl, refl)
full_told (Step by id) = (refl, refl)
full_told (Debug by id command) = (refl, refl)
full_told (Drain by time) = (refl, refl)
full_told (Put by index value) = (refl, refl)

world_of-entry : (log : Log) (e : Event) → world_of (with_entry log (entry_for e)) ≡ (after (world_of log) e).world
world_of-entry log (Request by time octets) = world_of-with_entry log (entry_for (Request by time octets))
world_of-entry log (Step by id) = world_of-with_entry log (entry_for (Step by id))
world_of-entry log (Debug by id command) = world_of-with_entry log (entry_for (Debug by id command))
world_of-entry log (Drain by time) = world_of-with_entry log (entry_for (Drain by time))
world_of-entry log (Put by index value) = world_of-with_entry log (entry_for (Put by index value))

module _ (log : Log) (e : Event) where
  abbrev answer : Answer
  answer = (after (world_of log) e).answer

  abbrev left : Bool → Bool → Log
  left b f = cond b (cond f log (with_entry log (entry_for e))) log

  -- an event that is not answered with a full journal has its own answer
  done_event : (x : Answer) → x ≡ answer_in log e → is_full_answer x ≡ false → (x ≡ answer) × (finds_full log e ≡ false)
  done_event x is roomy =
      elim (is_accepted answer) as (λ b. x ≡ cond b (cond (is_full log) (full_answer e) answer) answer → (x ≡ answer) × (cond b (is_full log) false ≡ false)) [
        | true ↦ elim (is_full log) as (λ f. x ≡ cond f (full_answer e) answer → (x ≡ answer) × (f ≡ false)) [
          | true ↦ λ a. absurd (true_false (sym (full_told e).0 ∙ ap is_full_answer (sym a) ∙ roomy))
          | false ↦ λ a. (a, refl)
        ]
        | false ↦ λ a. (a, refl)
      ] is

  -- one that is answered with a full journal would be accepted, since no world gives this answer
  pub full_event : (x : Answer) → (is_full_answer answer ≡ true → ⊥) → is_full_answer x ≡ true → x ≡ answer_in log e → finds_full log e ≡ true
  full_event x never full is =
      elim (is_accepted answer) as (λ b. x ≡ cond b (cond (is_full log) (full_answer e) answer) answer → cond b (is_full log) false ≡ true) [
        | true ↦ elim (is_full log) as (λ f. x ≡ cond f (full_answer e) answer → f ≡ true) [
          | true ↦ λ a. refl
          | false ↦ λ a. absurd (never (ap is_full_answer (sym a) ∙ full))
        ]
        | false ↦ λ a. absurd (never (ap is_full_answer (sym a) ∙ full))
      ] is

  -- and leaves the journal
  pub full_leaves : finds_full log e ≡ true → log_after log e ≡ log
  full_leaves =
      elim (is_accepted answer) as (λ b. cond b (is_full log) false ≡ true → left b (is_full log) ≡ log) [
        | true ↦ elim (is_full log) as (λ f. f ≡ true → left true f ≡ log) [
          | true ↦ λ h. refl
          | false ↦ λ h. absurd (true_false (sym h))
        ]
        | false ↦ λ h. absurd (true_false (sym h))
      ]

  -- the journal that it leaves has the event's world, since a refused event leaves the world
  pub world_left : (is_accepted answer ≡ false → (after (world_of log) e).world ≡ world_of log) → finds_full log e ≡ false → world_of (log_after log e) ≡ (after (world_of log) e).world
  world_left keeps =
      elim (is_accepted answer) as (λ b. is_accepted answer ≡ b → cond b (is_full log) false ≡ false → world_of (left b (is_full log)) ≡ (after (world_of log) e).world) [
        | true ↦ λ taken. elim (is_full log) as (λ f. f ≡ false → world_of (left true f) ≡ (after (world_of log) e).world) [
          | true ↦ λ full. absurd (true_false full)
          | false ↦ λ free. world_of-entry log e
        ]
        | false ↦ λ taken free. sym (keeps taken)
      ] refl

world_done : ((w : World) (e : Event) → is_accepted (after w e).answer ≡ false → (after w e).world ≡ w) → (log : Log) (e : Event) (new : Log) → new ≡ log_after log e → finds_full log e ≡ false → world_of new ≡ (after (world_of log) e).world
world_done keeps log e new is free = ap world_of is ∙ world_left log e (keeps (world_of log) e) free

-- ---- which answers are refusals

no_memory_stepped : (o : StepOutcome) → refusal_of (Stepped o) ≡ Some run.Memory → ⊥
no_memory_stepped S.JournalFull is = cc
no_memory_stepped other is = cc

no_memory_commanded : (r : Result (Unit {0}) DebugFault) → refusal_of (Commanded r) ≡ Some run.Memory → ⊥
no_memory_commanded (Err debug.JournalFull) is = cc
no_memory_commanded other is = cc

no_memory_written : (r : Result (Unit {0}) PutFault) → refusal_of (Written r) ≡ Some run.Memory → ⊥
no_memory_written (Err put.JournalFull) is = cc
no_memory_written other is = cc

-- no world answers that the journal is full
pub never_full : (a : Answer) → a ≢ Requested (Err engine.JournalFull) → a ≢ Stepped S.JournalFull → a ≢ Commanded (Err debug.JournalFull) → a ≢ Written (Err put.JournalFull) → is_full_answer a ≡ true → ⊥
never_full (Requested (Err engine.JournalFull)) request step command word is = request refl
never_full (Stepped S.JournalFull) request step command word is = step refl
never_full (Commanded (Err debug.JournalFull)) request step command word is = command refl
never_full (Written (Err put.JournalFull)) request step command word is = word refl
never_full other request step command word is = cc

-- ---- an event of a run

module _ (keeps : (w : World) (e : Event) → is_accepted (after w e).answer ≡ false → (after w e).world ≡ w) (log new : Log) (e : Event) where
  pub done_so : (x : Answer) → x ≡ answer_in log e → is_full_answer x ≡ false → new ≡ log_after log e → IsDone log new e x
  done_so x told roomy left =
      let done = done_event log e x told roomy in
      record { answer = done.0; world = world_done keeps log e new left done.1; journal = left; room = done.1 }

  -- one that is refused, but not for the journal or for memory
  refused_done : (fault : EngineFault) → is_full_answer (Requested (Err fault)) ≡ false → Requested (Err fault) ≡ answer_in log e → new ≡ log → IsDone log new e (Requested (Err fault))
  refused_done fault roomy told same =
      let done = done_event log e (Requested (Err fault)) told roomy in
      done_so (Requested (Err fault)) told roomy (same ∙ refused_store world_of (λ l x. is_full l) with_entry log e (sym (ap is_accepted done.0)))

  -- one that is not refused is done
  pub accepted_so : (a : Answer) → refusal_of a ≡ None → Enters log new e a → IsDone log new e a
  accepted_so (Requested (Ok reports)) is enters = done_so (Requested (Ok reports)) (sym enters.0) refl enters.1
  accepted_so (Requested (Err engine.JournalFull)) is enters = absurd (cc)
  accepted_so (Requested (Err engine.Memory)) is enters = absurd (cc)
  accepted_so (Requested (Err (engine.Discarded cause))) is enters = refused_done (engine.Discarded cause) refl (sym enters.0) enters.2
  accepted_so (Requested (Err engine.NothingDue)) is enters = refused_done engine.NothingDue refl (sym enters.0) enters.2
  accepted_so (Stepped outcome) is enters = done_so (Stepped outcome) enters.0 (ap full_by is) enters.1
  accepted_so (Commanded result) is enters = done_so (Commanded result) enters.0 (ap full_by is) enters.1
  accepted_so (Written result) is enters = done_so (Written result) enters.0 (ap full_by is) enters.1

  -- one that is refused finds the journal full or no memory, and changes nothing
  module _ (never : is_full_answer (after (world_of log) e).answer ≡ true → ⊥) where
    found_full : (a : Answer) → refusal_of a ≡ Some run.JournalFull → a ≡ answer_in log e → new ≡ log_after log e → (finds_full log e ≡ true) × (new ≡ log)
    found_full a is told left =
        let full = full_event log e a never (ap full_by is) told in
        (full, left ∙ full_leaves log e full)

    pub refused_so : (a : Answer) → (a ≡ Requested (Err engine.Memory) → TakesMemory log e) → (r : RunRefusal) → refusal_of a ≡ Some r → Enters log new e a → IsRefusedBy log e r × (new ≡ log)
    refused_so (Requested (Ok reports)) memory r is enters = absurd (cc)
    refused_so (Requested (Err engine.JournalFull)) memory run.JournalFull is enters = (full_event log e (Requested (Err engine.JournalFull)) never refl (sym enters.0), enters.2)
    refused_so (Requested (Err engine.JournalFull)) memory run.Memory is enters = absurd (cc)
    refused_so (Requested (Err engine.Memory)) memory run.JournalFull is enters = absurd (cc)
    refused_so (Requested (Err engine.Memory)) memory run.Memory is enters = (memory refl, enters.2)
    refused_so (Requested (Err (engine.Discarded cause))) memory r is enters = absurd (cc)
    refused_so (Requested (Err engine.NothingDue)) memory r is enters = absurd (cc)
    refused_so (Stepped outcome) memory run.JournalFull is enters = found_full (Stepped outcome) is enters.0 enters.1
    refused_so (Stepped outcome) memory run.Memory is enters = absurd (no_memory_stepped outcome is)
    refused_so (Commanded result) memory run.JournalFull is enters = found_full (Commanded result) is enters.0 enters.1
    refused_so (Commanded result) memory run.Memory is enters = absurd (no_memory_commanded result is)
    refused_so (Written result) memory run.JournalFull is enters = found_full (Written result) is enters.0 enters.1
    refused_so (Written result) memory run.Memory is enters = absurd (no_memory_written result is)

-- ---- journals after events, one after another

log_after_all-append : (log : Log) (xs ys : List Event) → log_after_all log (xs ++ ys) ≡ log_after_all (log_after_all log xs) ys
log_after_all-append log [] ys = refl
log_after_all-append log (x ∷ xs) ys = log_after_all-append (log_after log x) xs ys

HasRoom-append : (log : Log) (xs ys : List Event) → HasRoom log xs → HasRoom (log_after_all log xs) ys → HasRoom log (xs ++ ys)
HasRoom-append log [] ys before more = more
HasRoom-append log (x ∷ xs) ys before more = (before.0, HasRoom-append (log_after log x) xs ys before.1 more)

-- ---- one more event

module _ {E : Type 0} (event_of : E → Event) (start : Log) (events : List E) (i : ℕ) (d : E) (within : i < length events) where
  abbrev next : Event
  next = event_of (get_or events i d)

  abbrev before : List Event
  before = map event_of (take i events)

  longer : map event_of (take (i + 1) events) ≡ before ++ next ∷ []
  longer = ap (map event_of) (take_more events i d within) ∙ map-append event_of (take i events) (get_or events i d ∷ [])

  pub next_at : slice_get (map event_of events) i ≡ Some next
  next_at = slice_get-map event_of events i ∙ ap (option_map event_of) (slice_get-get_or events i d within)

  module _ (log : Log) (here : log ≡ log_after_all start before) where
    pub log_more : (new : Log) → new ≡ log_after log next → new ≡ log_after_all start (map event_of (take (i + 1) events))
    log_more new is = is ∙ ap (λ l. log_after l next) here ∙ sym (log_after_all-append start before (next ∷ [])) ∙ ap (log_after_all start) (sym longer)

    pub room_more : HasRoom start before → finds_full log next ≡ false → HasRoom start (map event_of (take (i + 1) events))
    room_more so_far free = subst (HasRoom start) (sym longer) (HasRoom-append start before (next ∷ []) so_far (ap (λ l. finds_full l next) (sym here) ∙ free, tt))

  module _ (log : Log) (here : world_of log ≡ replay_from (world_of start) before) where
    pub world_more : (new : Log) → world_of new ≡ (after (world_of log) next).world → world_of new ≡ replay_from (world_of start) (map event_of (take (i + 1) events))
    world_more new is = is ∙ ap (λ w. (after w next).world) here ∙ sym (replay_from-append (world_of start) before (next ∷ [])) ∙ ap (replay_from (world_of start)) (sym longer)

    pub told_more : {X : Type 0} (answer_of : X → Answer) (a : X) (told : List X) → answer_of a ≡ (after (world_of log) next).answer → map answer_of told ≡ answers (world_of start) before → map answer_of (told ++ a ∷ []) ≡ answers (world_of start) (map event_of (take (i + 1) events))
    told_more answer_of a told is so_far =
        map-append answer_of told (a ∷ [])
        ∙ (λ k. so_far k ++ (is ∙ ap (λ w. (after w next).answer) here) k ∷ [])
        ∙ sym (answers-append (world_of start) before (next ∷ []))
        ∙ ap (answers (world_of start)) (sym longer)

  -- a run that ends before this event
  pub run_end : (log new : Log) (refusal : RunRefusal) → IsRefusedBy log next refusal × (new ≡ log) → StopsAt new refusal i (slice_get (map event_of events) i)
  run_end log new refusal why = subst (StopsAt new refusal i) (sym next_at) (stops new refusal i next (subst (λ l. IsRefusedBy l next refusal) (sym why.1) why.0))
    where
      stops : (l : Log) (r : RunRefusal) (index : ℕ) (e : Event) → IsRefusedBy l e r → StopsAt l r index (Some e)
      stops l run.Memory zero e h = tt
      stops l run.Memory (suc index) e h = h
      stops l run.JournalFull zero e h = h
      stops l run.JournalFull (suc index) e h = h
