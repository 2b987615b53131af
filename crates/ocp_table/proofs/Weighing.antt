-- What is pending, and what an effect files, matches in silence and makes pending: no weight of origins is made or lost.
use Rattle.std.proofs.Common.{◌≡◌, ◌≤◌, ℕ, ◌+◌, List, [], ◌∷◌, ◌++◌, Option, Some, None, true, false, cond, refl, ap, arith}
use Rattle.std.specs.List.{sum_by}
use Rattle.std.specs.FinMap.{get, insert, empty}
use Rattle.std.proofs.lemmas.List.Sums.{sum_by-append}
use Rattle.obcp_types.specs.declared.pending.PendingOrigin.{PendingOrigin}
use Rattle.obcp_types.specs.declared.pending.Due.{Due}
use Rattle.verification.specs.Reports.{wants_completion}
use Rattle.ocp_pool.specs.declared.call.Called.TheVariants as call
use Rattle.ocp_table.specs.declared.control.Control.{Control}
use Rattle.ocp_table.specs.declared.control.Cause.TheVariants as cause
use Rattle.ocp_table.specs.declared.control.Pending.{Pending}
use Rattle.ocp_table.specs.declared.control.Pending.TheVariants as pending
use Rattle.ocp_table.specs.declared.answers.InstructionOutcome.TheVariants.{Broke, Ran, Called, Ended, Faulted}
use Rattle.ocp_table.specs.Records.{Rec, Records}
use Rattle.ocp_table.specs.Effects.{Change, Started, Sent, Pended, Quit, Resumed, Stepped, BreakSet, BreakCleared, TraceSet, Effect, Loaded, Unloaded, Changed, Drained, WordPut, Kept, matches, inactive, control_on_hold, without_pass, control_at_step_end, control_by, record_by, new_record, with_change, records_by, failed_completion, due_completion, dues_at_step_end, dues_by_change, dues_of, failed_completion_of, dues_by, outbox_by}
use Rattle.ocp_table.proofs.Totals.{of, total, total-insert, total-remove, total-empty}

-- what a drain takes
abbrev pub drained_by : Effect → List Due → List Due
drained_by Drained outbox = outbox
drained_by effect outbox = []

-- any weight of origins: with weight 1 at all it counts
module _ (f : PendingOrigin → ℕ) where
  abbrev pub entry : Pending → ℕ
  entry pending.Nothing = 0
  entry (pending.Stop s from) = f from
  entry (pending.Suspend s from) = f from

  abbrev pub entry_in : Rec → ℕ
  entry_in r = entry r.control.pending

  -- of all that is pending
  abbrev pub waiting : Records → ℕ
  waiting m = total entry_in m

  pub waiting-empty : waiting empty ≡ 0
  waiting-empty = total-empty entry_in

  -- of completions that wait to be reported
  abbrev pub due : List Due → ℕ
  due ds = sum_by (λ (d : Due). f d.origin) ds

  pub due-append : (xs ys : List Due) → due (xs ++ ys) ≡ due xs + due ys
  due-append xs ys = sum_by-append (λ (d : Due). f d.origin) xs ys

  -- of an entry that the end of a step matches while its completion flag is off
  abbrev pub unasked : PendingOrigin → ℕ
  unasked from = cond (wants_completion from.ack) 0 (f from)

  abbrev pub silent_at_step_end : Pending → ℕ → ℕ
  silent_at_step_end pending.Nothing k = 0
  silent_at_step_end (pending.Stop s from) k = cond (matches s k) (unasked from) 0
  silent_at_step_end (pending.Suspend s from) k = cond (matches s k) (unasked from) 0

  abbrev pub silent_by_change : Change → Pending → ℕ
  silent_by_change (Stepped (Called (call.StepEnd k))) p = silent_at_step_end p k
  silent_by_change change p = 0

  abbrev pub silent_there : Change → Option Rec → ℕ
  silent_there change None = 0
  silent_there change (Some r) = silent_by_change change r.control.pending

  abbrev pub silent_by : Effect → Records → ℕ
  silent_by (Changed id change) m = silent_there change (get m id)
  silent_by effect m = 0

  -- of an entry that becomes pending
  abbrev pub pended_by_change : Change → ℕ
  pended_by_change (Pended p) = entry p
  pended_by_change change = 0

  abbrev pub pended_there : Change → Option Rec → ℕ
  pended_there change None = 0
  pended_there change (Some r) = pended_by_change change

  abbrev pub pended_by : Effect → Records → ℕ
  pended_by (Changed id change) m = pended_there change (get m id)
  pended_by effect m = 0

  -- ---- one record

  due-overtaken : (p : Pending) → due (failed_completion p) ≡ entry p
  due-overtaken pending.Nothing = refl
  due-overtaken (pending.Stop s from) = omega arith
  due-overtaken (pending.Suspend s from) = omega arith

  -- an entry that goes is filed
  gone : (p : Pending) → due (failed_completion p) + 0 + 0 ≡ entry p + 0
  gone p = let same = due-overtaken p in omega (arith, same)

  replaced : (p next : Pending) → due (failed_completion p) + 0 + entry next ≡ entry p + entry next
  replaced p next = let same = due-overtaken p in omega (arith, same)

  stays : (p : Pending) → due [] + 0 + entry p ≡ entry p + 0
  stays p = omega arith

  due-completed : (from : PendingOrigin) → due (due_completion from) + unasked from + 0 ≡ f from + 0
  due-completed from = elim (wants_completion from.ack) as (λ b. due (cond b (record { origin = from; failure = None } ∷ []) []) + cond b 0 (f from) + 0 ≡ f from + 0) [ true ↦ omega arith | false ↦ omega arith ]

  at_step_end : (p : Pending) (k : ℕ) (c : Control) → c.pending ≡ p → due (dues_at_step_end p k) + silent_at_step_end p k + entry (control_at_step_end p k c).pending ≡ entry p + 0
  at_step_end pending.Nothing k c is = let same : entry c.pending ≡ 0 = ap entry is in omega (arith, same)
  at_step_end (pending.Stop s from) k c is = elim (matches s k) as (λ b. due (cond b (due_completion from) []) + cond b (unasked from) 0 + entry (cond b (inactive cause.Stopped) (without_pass c)).pending ≡ f from + 0) [
    | true ↦ due-completed from
    | false ↦ let same : entry c.pending ≡ f from = ap entry is in omega (arith, same)
  ]
  at_step_end (pending.Suspend s from) k c is = elim (matches s k) as (λ b. due (cond b (due_completion from) []) + cond b (unasked from) 0 + entry (cond b (control_on_hold pending.Nothing c) (without_pass c)).pending ≡ f from + 0) [
    | true ↦ due-completed from
    | false ↦ let same : entry c.pending ≡ f from = ap entry is in omega (arith, same)
  ]

  pub moves : (change : Change) (c : Control) → due (dues_by_change change c.pending) + silent_by_change change c.pending + entry (control_by change c).pending ≡ entry c.pending + pended_by_change change
  moves (Started budget arguments) c = gone c.pending
  moves (Sent words) c = stays c.pending
  moves (Pended next) c = replaced c.pending next
  moves (Quit why) c = gone c.pending
  moves Resumed c = stays c.pending
  moves (Stepped Broke) c = stays c.pending
  moves (Stepped Ran) c = stays c.pending
  moves (Stepped (Called (call.StepEnd k))) c = at_step_end c.pending k c refl
  moves (Stepped (Called other)) c = stays c.pending
  moves (Stepped Ended) c = gone c.pending
  moves (Stepped (Faulted number)) c = gone c.pending
  moves (BreakSet place) c = stays c.pending
  moves (BreakCleared place) c = stays c.pending
  moves (TraceSet on) c = stays c.pending

  -- ---- all records

  pub waiting-there : (m : Records) (id : ℕ) (r : Rec) → get m id ≡ Some r → entry_in r ≤ waiting m
  waiting-there m id r is =
      let same : of entry_in (get m id) ≡ entry_in r = ap (of entry_in) is in
      let whole = total-remove entry_in m id in
      omega (arith, same, whole)

  due-overtaken_of : (o : Option Rec) → due (failed_completion_of o) ≡ of entry_in o
  due-overtaken_of None = refl
  due-overtaken_of (Some r) = due-overtaken r.control.pending

  balance_there : (m : Records) (id : ℕ) (change : Change) (o : Option Rec) → get m id ≡ o → waiting (with_change o id change m) + (due (dues_of change o) + silent_there change o) ≡ waiting m + pended_there change o
  balance_there m id change None is = refl
  balance_there m id change (Some r) is =
      let put = total-insert entry_in m id (record_by change r) in
      let old : of entry_in (get m id) ≡ entry_in r = ap (of entry_in) is in
      let moved = moves change r.control in
      arrange (waiting (insert m id (record_by change r))) (of entry_in (get m id)) (waiting m) (entry_in (record_by change r)) (entry_in r) (due (dues_by_change change r.control.pending)) (silent_by_change change r.control.pending) (pended_by_change change) put old moved
    where
      arrange : (t' o t w' w d s b : ℕ) → t' + o ≡ t + w' → o ≡ w → d + s + w' ≡ w + b → t' + (d + s) ≡ t + b
      arrange t' o t w' w d s b p q r = omega arith

  -- what is pending afterwards, what was filed, and what was matched in silence, are what was pending and what became so
  pub balance : (effect : Effect) (m : Records) → waiting (records_by effect m) + (due (dues_by effect m) + silent_by effect m) ≡ waiting m + pended_by effect m
  balance (Loaded profile id image) m =
      let put = total-insert entry_in m id (new_record profile image) in
      let old = due-overtaken_of (get m id) in
      omega (arith, put, old)
  balance (Unloaded id) m =
      let dropped = total-remove entry_in m id in
      let old = due-overtaken_of (get m id) in
      omega (arith, dropped, old)
  balance (Changed id change) m = balance_there m id change (get m id) refl
  balance Drained m = refl
  balance (WordPut index value) m = refl
  balance (Kept why) m = refl

  filed_after : (outbox ds : List Due) → 0 + due (outbox ++ ds) ≡ due outbox + due ds
  filed_after outbox ds = let longer = due-append outbox ds in omega (arith, longer)

  -- what a drain takes, and the outbox afterwards, are the outbox and what was filed
  pub files : (effect : Effect) (m : Records) (outbox : List Due) → due (drained_by effect outbox) + due (outbox_by effect m outbox) ≡ due outbox + due (dues_by effect m)
  files (Loaded profile id image) m outbox = filed_after outbox (dues_by (Loaded profile id image) m)
  files (Unloaded id) m outbox = filed_after outbox (dues_by (Unloaded id) m)
  files (Changed id change) m outbox = filed_after outbox (dues_by (Changed id change) m)
  files Drained m outbox = refl
  files (WordPut index value) m outbox = filed_after outbox []
  files (Kept why) m outbox = filed_after outbox []
