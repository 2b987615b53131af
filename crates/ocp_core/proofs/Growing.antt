-- What an answer of an engine adds to its journal.
use Rattle.std.proofs.Common.{◌≡◌, ◌≤◌, ◌==◌, ℕ, zero, suc, Bool, true, false, cond, List, [], ◌∷◌, ◌++◌, refl, sym, ap, subst, ◌∙◌, arith}
use Rattle.std.specs.Prelude.{Ok, Err, Option, Some, None}
use Rattle.std.proofs.lemmas.List.{append-nil}
use Rattle.ocp_table.specs.declared.answers.StepOutcome.TheVariants as S
use Rattle.ocp_table.specs.declared.answers.Slice.{Slice}
use Rattle.ocp_world.specs.World.{World, Event, Request, Step, Debug, Drain, Put}
use Rattle.ocp_world.specs.Slice.{goes_on, next_outcome, slice_count, slice_last}
use Rattle.ocp_world.specs.After.{Answer, Requested, Stepped, Commanded, Written, After, after, is_accepted}
use Rattle.ocp_core.specs.Log.{Log, Entry, Steps, world_of, is_full, with_entry, entry_for, full_answer, answer_in, log_after}
use Rattle.ocp_core.specs.Slice.{slice_in, slice_log}
use Rattle.ocp_core.specs.Marks.{MarkedEntry, mark_in, entries_with_marks}
use Rattle.ocp_core.specs.declared.answers.CommitOutcome.{CommitOutcome}
use Rattle.ocp_core.specs.declared.answers.CommitOutcome.TheVariants as C
use Rattle.ocp_core.specs.Tickets.{WorkContents, IsRun}
use Rattle.ocp_core.specs.Commits.{Commits}
use Rattle.ocp_core.specs.declared.event.Entry as N
use Rattle.ocp_core.specs.Journal.{entry_with_mark}
use Rattle.ocp_core.specs.Receipts.{Enters, Grows, event_entries, entries_in, count_entries, slice_entries, commit_entries}
use Rattle.ocp_core.proofs.Marking.{AreAnswered, marked-with_entry, event_mark, slice_mark, commit_mark}

-- no entry
same_log : (log : Log) → log ≡ record log { entries = log.entries ++ [] }
same_log log = ap (λ es. record log { entries = es }) (sym (append-nil log.entries))

pub grows_none : (log new : Log) (entries : List MarkedEntry) → new ≡ log → entries ≡ [] → Grows log new entries
grows_none log new entries is none = subst (λ es. Grows log new es) (sym none) (subst (λ l. Grows log l []) (sym is) (record { journal = same_log log; marks = sym (append-nil (entries_with_marks log)) }))

grows_one : (log new : Log) (entry : Entry) (mark : Answer) → new ≡ with_entry log entry → mark ≡ mark_in (world_of log) entry → Grows log new (record { entry = entry; mark = mark } ∷ [])
grows_one log new entry mark is marks = record {
  journal = is;
  marks = ap entries_with_marks is ∙ marked-with_entry log entry ∙ ap (λ a. entries_with_marks log ++ record { entry = entry; mark = a } ∷ []) (sym marks);
}

-- ---- an event

none_full : (e : Event) → event_entries e (full_answer e) ≡ []
none_full (Request by time octets) = refl
none_full (Step by id) = refl
none_full (Debug by id command) = refl
none_full (Drain by time) = refl
none_full (Put by index value) = refl

none_refused : (e : Event) (a : Answer) → is_accepted a ≡ false → event_entries e a ≡ []
none_refused e a refused = ap (λ b. cond b (record { entry = entry_for e; mark = a } ∷ []) []) refused

one_accepted : (e : Event) (a : Answer) → is_accepted a ≡ true → event_entries e a ≡ record { entry = entry_for e; mark = a } ∷ []
one_accepted e a taken = ap (λ b. cond b (record { entry = entry_for e; mark = a } ∷ []) []) taken

abbrev after_by : Log → Event → Bool → Bool → Log
after_by log e taken full = cond taken (cond full log (with_entry log (entry_for e))) log

abbrev answer_by : Event → Answer → Bool → Bool → Answer
answer_by e a taken full = cond taken (cond full (full_answer e) a) a

grows_by : (log : Log) (e : Event) (a : Answer) (taken full : Bool) → is_accepted a ≡ taken → a ≡ mark_in (world_of log) (entry_for e) → Grows log (after_by log e taken full) (event_entries e (answer_by e a taken full))
grows_by log e a false full taken is = grows_none log log (event_entries e a) refl (none_refused e a taken)
grows_by log e a true true taken is = grows_none log log (event_entries e (full_answer e)) refl (none_full e)
grows_by log e a true false taken is =
    subst (λ es. Grows log (with_entry log (entry_for e)) es) (sym (one_accepted e a taken)) (grows_one log (with_entry log (entry_for e)) (entry_for e) a refl is)

grows_event : (log new : Log) (e : Event) (a : Answer) → a ≡ answer_in log e → new ≡ log_after log e → Grows log new (event_entries e a)
grows_event log new e a is left =
    let first : Answer = (after (world_of log) e).answer in
    subst (λ l. Grows log l (event_entries e a)) (sym left)
    (subst (λ x. Grows log (log_after log e) (event_entries e x)) (sym is)
    (grows_by log e first (is_accepted first) (is_full log) refl (sym (event_mark (world_of log) e))))

pub grows_entered : (log new : Log) (e : Event) (a : Answer) → Enters log new e a → Grows log new (event_entries e a)
grows_entered log new e (Requested (Ok reports)) is = grows_event log new e (Requested (Ok reports)) (sym is.0) is.1
grows_entered log new e (Requested (Err fault)) is = grows_none log new [] is.2 refl
grows_entered log new e (Stepped outcome) is = grows_event log new e (Stepped outcome) is.0 is.1
grows_entered log new e (Commanded result) is = grows_event log new e (Commanded result) is.0 is.1
grows_entered log new e (Written result) is = grows_event log new e (Written result) is.0 is.1

-- the entry that is returned is the one that the journal gained
pub grows_receipt : {A : Type 0} (log new : Log) (e : Event) (a : Answer) (entry : Option (N.Entry A)) → Enters log new e a → entries_in entry ≡ event_entries e a → Grows log new (entries_in entry)
grows_receipt log new e a entry is same = subst (λ es. Grows log new es) (sym same) (grows_entered log new e a is)

pub refused_nothing : {A : Type 0} (log new : Log) (e : Event) (a : Answer) (entry : Option (N.Entry A)) → Enters log new e a → entries_in entry ≡ event_entries e a → is_accepted a ≡ false → (entry ≡ None) × (new ≡ log)
refused_nothing log new e a None is same refused = (refl, (subst (λ es. Grows log new es) (none_refused e a refused) (grows_entered log new e a is)).journal ∙ sym (same_log log))
refused_nothing log new e a (Some entry) is same refused = absurd (one_is_none (same ∙ none_refused e a refused))
  where
    one_is_none : entry_with_mark entry ∷ [] ≡ [] → ⊥
    one_is_none is = cc

-- ---- a slice

slice_some : (w : World) (by id budget : ℕ) → ((slice_count w by id (suc budget)) ≡ 0) → ⊥
slice_some w by id budget is = some (goes_on w by id) is
  where
    some : (b : Bool) → cond b (suc (slice_count (after w (Step by id)).world by id budget)) 1 ≡ 0 → ⊥
    some true is = cc
    some false is = cc

abbrev slice_log_by : Log → ℕ → ℕ → ℕ → Bool → Bool → Log
slice_log_by log by id budget taken full = cond taken (cond full log (with_entry log (Steps by id (slice_count (world_of log) by id budget)))) log

abbrev slice_by : Log → ℕ → ℕ → ℕ → Bool → Bool → Slice
slice_by log by id budget taken full =
    cond taken
    (cond full (record { count = 0; last = S.JournalFull }) (record { count = slice_count (world_of log) by id budget; last = slice_last (world_of log) by id S.Ran budget }))
    (record { count = 0; last = next_outcome (world_of log) id })

slice_entries_some : (by id : ℕ) (s : Slice) → (s.count ≡ 0 → ⊥) → slice_entries by id s ≡ count_entries by id s.count s.last
slice_entries_some by id s some =
    let none : (s.count == 0) ≡ false = grind arith in
    ap (λ b. cond b [] (count_entries by id s.count s.last)) none

grows_accepted_by : (log : Log) (by id budget : ℕ) (taken full : Bool) → taken ≡ true → full ≡ false
    → let s = slice_by log by id budget taken full in Grows log (slice_log_by log by id budget taken full) (count_entries by id s.count s.last)
grows_accepted_by log by id budget false full t f = absurd cc
grows_accepted_by log by id budget true true t f = absurd cc
grows_accepted_by log by id budget true false t f =
    let w = world_of log in
    let n = slice_count w by id budget in
    grows_one log (with_entry log (Steps by id n)) (Steps by id n) (Stepped (slice_last w by id S.Ran budget)) refl (ap Stepped (sym (slice_mark w by id S.Ran budget)))

pub grows_accepted : (log : Log) (by id budget : ℕ) → is_accepted (after (world_of log) (Step by id)).answer ≡ true → is_full log ≡ false
    → let s = slice_in log by id budget in Grows log (slice_log log by id budget) (count_entries by id s.count s.last)
grows_accepted log by id budget = grows_accepted_by log by id budget (is_accepted (after (world_of log) (Step by id)).answer) (is_full log)

grows_slice_by : (log : Log) (by id budget : ℕ) (taken full : Bool) → Grows log (slice_log_by log by id (suc budget) taken full) (slice_entries by id (slice_by log by id (suc budget) taken full))
grows_slice_by log by id budget false full = grows_none log log [] refl refl
grows_slice_by log by id budget true true = grows_none log log [] refl refl
grows_slice_by log by id budget true false =
    let w = world_of log in
    let n = slice_count w by id (suc budget) in
    let last = slice_last w by id S.Ran (suc budget) in
    subst (λ es. Grows log (with_entry log (Steps by id n)) es) (sym (slice_entries_some by id (record { count = n; last = last }) (slice_some w by id budget)))
    (grows_accepted_by log by id (suc budget) true false refl refl)

pub grows_slice : (log : Log) (by id budget : ℕ) → 1 ≤ budget → Grows log (slice_log log by id budget) (slice_entries by id (slice_in log by id budget))
grows_slice log by id zero low = absurd (omega arith)
grows_slice log by id (suc budget) low = grows_slice_by log by id budget (is_accepted (after (world_of log) (Step by id)).answer) (is_full log)

pub grows_sliced : (log new : Log) (by id budget : ℕ) (s : Slice) → 1 ≤ budget → s ≡ slice_in log by id budget → new ≡ slice_log log by id budget → Grows log new (slice_entries by id s)
grows_sliced log new by id budget s low is left =
    subst (λ l. Grows log l (slice_entries by id s)) (sym left)
    (subst (λ x. Grows log (slice_log log by id budget) (slice_entries by id x)) (sym is)
    (grows_slice log by id budget low))

-- the least and the largest number of its instructions

pub slice_count_some : (w : World) (by id budget : ℕ) → 1 ≤ budget → 1 ≤ slice_count w by id budget
slice_count_some w by id zero low = absurd (omega (arith, low))
slice_count_some w by id (suc budget) low =
    elim (goes_on w by id) as (λ b. 1 ≤ cond b (suc (slice_count (after w (Step by id)).world by id budget)) 1) [
      | true ↦ omega arith
      | false ↦ omega arith
    ]

pub slice_count_within : (w : World) (by id budget : ℕ) → slice_count w by id budget ≤ budget
slice_count_within w by id zero = omega arith
slice_count_within w by id (suc budget) =
    let step : After = after w (Step by id) in
    elim (goes_on w by id) as (λ b. cond b (suc (slice_count step.world by id budget)) 1 ≤ suc budget) [
      | true ↦ omega (arith, slice_count_within step.world by id budget)
      | false ↦ omega arith
    ]

-- ---- a commit

pub grows_commit : AreAnswered → (old new : Log) (by : ℕ) (w : WorkContents) (o : CommitOutcome) → IsRun w → Commits old new by w o → Grows old new (commit_entries by w.id o)
grows_commit law old new by w C.Empty run is = grows_none old new [] is.1 refl
grows_commit law old new by w C.Stale run is = grows_none old new [] is.2 refl
grows_commit law old new by w C.JournalFull run is = grows_none old new [] is.3 refl
grows_commit law old new by w (C.Committed count) run is =
    subst (λ n. Grows old new (count_entries by w.id n S.Ran)) (sym is.3)
    (grows_one old new (Steps by w.id w.count) (Stepped S.Ran) is.4.journal (ap Stepped (sym (commit_mark law old by w is.0 is.1 run))))
