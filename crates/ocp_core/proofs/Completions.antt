-- Each stop or suspend that became pending is in one place, its completion is reported at most once, and its place was
-- free.
use Rattle.std.proofs.Common.{◌≡◌, ◌≤◌, ℕ, ◌+◌, List, [], ◌∷◌, ◌++◌, map, length, Option, Some, None, Bool, true, false, cond, refl, sym, ap, subst, ◌∙◌, arith, ⊎_elim}
use Rattle.std.specs.Prelude.{◌==◌, ◌||◌, ◌&&◌, nat_lt}
use Rattle.std.specs.List.{sum_by, flat_map, list_all}
use Rattle.std.specs.Option.{option_map_or}
use Rattle.std.specs.FinMap.{get, values}
use Rattle.std.proofs.lemmas.List.{append-nil}
use Rattle.std.proofs.lemmas.List.Sums.{sum_by-cons, sum_by-append, sum_by_push}
use Rattle.std.proofs.lemmas.List.Folds.{list_all-append}
use Rattle.std.proofs.lemmas.Bool.{eqb-true, eqb-false, and_parts}
use Rattle.ocp_profile.specs.declared.profile.Profile.{Profile}
use Rattle.pus_fields.specs.TelecommandFaults.{telecommand_of}
use Rattle.obcp_types.specs.declared.pending.Due.{Due}
use Rattle.obcp_types.specs.declared.pending.PendingOrigin.{PendingOrigin}
use Rattle.verification.specs.declared.notice.Notice.{Notice}
use Rattle.verification.specs.declared.notice.Notice.TheVariants.{Completed}
use Rattle.verification.specs.Reports.{wants_completion}
use Rattle.ocp_pool.specs.declared.call.Called.TheVariants.{StepEnd}
use Rattle.ocp_table.specs.declared.answers.InstructionOutcome.TheVariants.{Called, Ended, Faulted}
use Rattle.ocp_table.specs.declared.control.Pending.{Pending}
use Rattle.ocp_table.specs.declared.control.Pending.TheVariants as pending
use Rattle.ocp_table.specs.Records.{Rec, Records}
use Rattle.ocp_table.specs.Effects as table
use Rattle.ocp_table.specs.Effects.{Change, Started, Pended, Quit, Stepped, Loaded, Unloaded, Changed, Drained, WordPut, Kept, matches, failed_completion, due_completion, dues_at_step_end, dues_by_change, dues_of, failed_completion_of, outbox_by}
use Rattle.ocp_table.specs.Outbox.{HasPlaces}
use Rattle.ocp_table.proofs.Weighing as weight
use Rattle.ocp_table.proofs.Weighing.{entry, entry_in, waiting, waiting-empty, due, balance, files, drained_by}
use Rattle.ocp_table.proofs.Rooms.{IsRoomy, outbox_fits, pendings-empty}
use Rattle.ocp_reports.specs.Origin.{Dispatch}
use Rattle.ocp_reports.specs.Due.{origin_of_due, due_dispatches}
use Rattle.ocp_reports.specs.Reports.{dispatch_of_notice}
use Rattle.ocp_world.specs.World as world
use Rattle.ocp_world.specs.World.{World, Event, opening}
use Rattle.ocp_world.specs.Effect.{Effect}
use Rattle.ocp_world.specs.Requests.{has_no_place}
use Rattle.ocp_world.specs.Drains.{drain_effect}
use Rattle.ocp_world.specs.After.{effect_of, after, world_after, events_by}
use Rattle.ocp_world.specs.Replay.{replay_from, replay}
use Rattle.ocp_core.specs.Outbox.{count, is_in, number_in, pending_by, becomes_pending, all_pending, pending_numbers, due_numbers, report_numbers, drain_numbers, all_drain_numbers, unless_asked, silent_at_step_end, silent_by_change, silent_by, silent_in, all_silent, places, gives_one_report, EachStandsOnce, IsReportedOnceAtMost, EachGivesOneReport, PlacesSuffice}
use Rattle.ocp_core.proofs.Carried.{carried_along}
use Rattle.ocp_core.proofs.Numbered.{IsNumberedChange, IsNumbered, numbered_request, numbered_step, numbered_debug, numbered_put, counts}

-- ---- each completion that waits gives one report

module _ (time : ℕ) where
  abbrev gives : List Due → Bool
  gives dues = list_all (gives_one_report time) dues

  gives_overtaken : (p : Pending) → gives (failed_completion p) ≡ true
  gives_overtaken pending.Nothing = refl
  gives_overtaken (pending.Stop s from) = refl
  gives_overtaken (pending.Suspend s from) = refl

  gives_completed : (from : PendingOrigin) → gives (due_completion from) ≡ true
  gives_completed from = elim (wants_completion from.ack) as (λ b. wants_completion from.ack ≡ b → gives (cond b (record { origin = from; failure = None } ∷ []) []) ≡ true) [
    | true ↦ λ set. ap (λ b. gives_if (cond b (Some Completed) None)) set
    | false ↦ λ off. refl
  ] refl
    where
      one : Due
      one = record { origin = from; failure = None }

      gives_if : Option Notice → Bool
      gives_if o = (length (option_map_or (dispatch_of_notice (origin_of_due time one) []) o []) == 1) && true

  gives_at_step_end : (p : Pending) (k : ℕ) → gives (dues_at_step_end p k) ≡ true
  gives_at_step_end pending.Nothing k = refl
  gives_at_step_end (pending.Stop s from) k = elim (matches s k) as (λ b. gives (cond b (due_completion from) []) ≡ true) [ true ↦ gives_completed from | false ↦ refl ]
  gives_at_step_end (pending.Suspend s from) k = elim (matches s k) as (λ b. gives (cond b (due_completion from) []) ≡ true) [ true ↦ gives_completed from | false ↦ refl ]

  gives_change : (change : Change) (p : Pending) → gives (dues_by_change change p) ≡ true
  gives_change (Started budget arguments) p = gives_overtaken p
  gives_change (Pended next) p = gives_overtaken p
  gives_change (Quit cause) p = gives_overtaken p
  gives_change (Stepped Ended) p = gives_overtaken p
  gives_change (Stepped (Faulted number)) p = gives_overtaken p
  gives_change (Stepped (Called (StepEnd k))) p = gives_at_step_end p k
  gives_change (Stepped (Called call)) p = refl
  gives_change (Stepped outcome) p = refl
  gives_change change p = refl

  gives_of : (change : Change) (o : Option Rec) → gives (dues_of change o) ≡ true
  gives_of change None = refl
  gives_of change (Some r) = gives_change change r.control.pending

  gives_gone : (o : Option Rec) → gives (failed_completion_of o) ≡ true
  gives_gone None = refl
  gives_gone (Some r) = gives_overtaken r.control.pending

  gives_filed : (outbox dues : List Due) → gives outbox ≡ true → gives dues ≡ true → gives (outbox ++ dues) ≡ true
  gives_filed outbox dues p q = list_all-append (gives_one_report time) outbox dues ∙ ap (λ b. b && gives dues) p ∙ q

  gives_outbox : (effect : table.Effect) (m : Records) (outbox : List Due) → gives outbox ≡ true → gives (outbox_by effect m outbox) ≡ true
  gives_outbox (Loaded profile id image) m outbox is = gives_filed outbox _ is (gives_gone (get m id))
  gives_outbox (Unloaded id) m outbox is = gives_filed outbox _ is (gives_gone (get m id))
  gives_outbox (Changed id change) m outbox is = gives_filed outbox _ is (gives_of change (get m id))
  gives_outbox Drained m outbox is = refl
  gives_outbox (WordPut index value) m outbox is = gives_filed outbox [] is refl
  gives_outbox (Kept why) m outbox is = gives_filed outbox [] is refl

  -- so a drain reports each of them once
  one_of : (n : ℕ) (dispatches : List Dispatch) → (length dispatches == 1) ≡ true → map (λ (dispatch : Dispatch). n) dispatches ≡ n ∷ []
  one_of n [] is = absurd (omega (arith, eqb-true 0 1 is))
  one_of n (d ∷ []) is = refl
  one_of n (d ∷ e ∷ es) is = let same = eqb-true (length (d ∷ e ∷ es)) 1 is in absurd (omega (arith, same))

  reported_once : (dues : List Due) → gives dues ≡ true → flat_map (report_numbers time) dues ≡ due_numbers dues
  reported_once [] is = refl
  reported_once (d ∷ ds) is =
      let parts = and_parts _ _ is in
      ap (λ ns. ns ++ flat_map (report_numbers time) ds) (one_of d.origin.event (due_dispatches time d) parts.0) ∙ ap (λ ns. d.origin.event ∷ ns) (reported_once ds parts.1)

-- ---- weights of numbers

-- any weight of numbers: with weight 1 at n alone it counts n
module _ (f : ℕ → ℕ) where
  abbrev weigh : List ℕ → ℕ
  weigh ns = sum_by f ns

  weigh-append : (xs ys : List ℕ) → weigh (xs ++ ys) ≡ weigh xs + weigh ys
  weigh-append xs ys = sum_by-append f xs ys

  abbrev at : PendingOrigin → ℕ
  at from = f from.event

  weigh-one : (n : ℕ) → weigh (n ∷ []) ≡ f n
  weigh-one n = omega arith

  weigh-entry : (p : Pending) → weigh (number_in p) ≡ entry at p
  weigh-entry pending.Nothing = refl
  weigh-entry (pending.Stop s from) = weigh-one from.event
  weigh-entry (pending.Suspend s from) = weigh-one from.event

  weigh-pending : (m : Records) → weigh (pending_numbers m) ≡ waiting at m
  weigh-pending m = go (values m)
    where
      go : (rs : List Rec) → weigh (flat_map (λ (r : Rec). number_in r.control.pending) rs) ≡ sum_by (entry_in at) rs
      go [] = refl
      go (r ∷ rs) =
          let parts = weigh-append (number_in r.control.pending) (flat_map (λ (r : Rec). number_in r.control.pending) rs) in
          let here = weigh-entry r.control.pending in
          let rest = go rs in
          let whole = sum_by-cons (entry_in at) r rs in
          omega (arith, parts, here, rest, whole)

  weigh-due : (ds : List Due) → weigh (due_numbers ds) ≡ due at ds
  weigh-due [] = refl
  weigh-due (d ∷ ds) =
      let left = sum_by-cons f d.origin.event (due_numbers ds) in
      let right = sum_by-cons (λ (x : Due). at x.origin) d ds in
      let rest = weigh-due ds in
      omega (arith, left, right, rest)

  -- ---- what an event matches in silence

  weigh-unasked : (from : PendingOrigin) → weigh (unless_asked from) ≡ weight.unasked at from
  weigh-unasked from = elim (wants_completion from.ack) as (λ b. weigh (cond b [] (from.event ∷ [])) ≡ cond b 0 (at from)) [ true ↦ refl | false ↦ weigh-one from.event ]

  weigh-silent_at : (p : Pending) (k : ℕ) → weigh (silent_at_step_end p k) ≡ weight.silent_at_step_end at p k
  weigh-silent_at pending.Nothing k = refl
  weigh-silent_at (pending.Stop s from) k = elim (matches s k) as (λ b. weigh (cond b (unless_asked from) []) ≡ cond b (weight.unasked at from) 0) [ true ↦ weigh-unasked from | false ↦ refl ]
  weigh-silent_at (pending.Suspend s from) k = elim (matches s k) as (λ b. weigh (cond b (unless_asked from) []) ≡ cond b (weight.unasked at from) 0) [ true ↦ weigh-unasked from | false ↦ refl ]

  weigh-silent_of : (change : Change) (o : Option Rec) → weigh (silent_by_change change o) ≡ weight.silent_there at change o
  weigh-silent_of (Stepped (Called (StepEnd k))) (Some r) = weigh-silent_at r.control.pending k
  weigh-silent_of (Stepped (Called call)) (Some r) = refl
  weigh-silent_of (Stepped outcome) (Some r) = refl
  weigh-silent_of change (Some r) = refl
  weigh-silent_of (Stepped (Called (StepEnd k))) None = refl
  weigh-silent_of (Stepped (Called call)) None = refl
  weigh-silent_of (Stepped outcome) None = refl
  weigh-silent_of change None = refl

  weigh-silent : (effect : table.Effect) (m : Records) → weigh (silent_by effect m) ≡ weight.silent_by at effect m
  weigh-silent (Changed id change) m = weigh-silent_of change (get m id)
  weigh-silent effect m = refl

  -- ---- what an event makes pending

  weigh-pended_of : (w : World) (id : ℕ) (o : Option Rec) (change : Change) → IsNumberedChange w o change → weigh (pending_by (Changed id change) w.events) ≡ weight.pended_there at change o
  weigh-pended_of w id (Some r) (Pended p) is = ap weigh (sym is.0) ∙ weigh-entry p
  weigh-pended_of w id None (Pended p) is = absurd (impossible is.1.0.1)
    where
      impossible : {r : Rec} → None ≡ Some r → ⊥
      impossible e = cc
  weigh-pended_of w id (Some r) change is = refl
  weigh-pended_of w id None change is = refl

  weigh-pended : (w : World) (effect : table.Effect) → IsNumbered w effect → weigh (pending_by effect w.events) ≡ weight.pended_by at effect w.records
  weigh-pended w (Changed id change) is = weigh-pended_of w id (get w.records id) change is
  weigh-pended w Drained is = absurd is
  weigh-pended w effect is = refl

  -- ---- the places weigh what became pending

  abbrev Balanced : World → List ℕ → List ℕ → List ℕ → Type 0
  Balanced w ps rs ss = waiting at w.records + (due at w.outbox + (weigh rs + weigh ss)) ≡ weigh ps

  module _ (w : World) (effect : Effect) (ps rs ss pended reported : List ℕ) (is : Balanced w ps rs ss)
      (becomes : weigh pended ≡ weight.pended_by at effect.on_records w.records)
      (leaves : weigh reported ≡ due at (drained_by effect.on_records w.outbox)) where
    balanced_by : Balanced (world_after effect w) (ps ++ pended) (rs ++ reported) (ss ++ silent_by effect.on_records w.records)
    balanced_by =
        let e = effect.on_records in
        let moved = balance at e w.records in
        let filed = files at e w.records w.outbox in
        let silent = weigh-silent e w.records in
        let all_pended = weigh-append ps pended in
        let all_reported = weigh-append rs reported in
        let all_silent = weigh-append ss (silent_by e w.records) in
        omega (arith, moved, filed, silent, all_pended, all_reported, all_silent, is, becomes, leaves)

  -- an event that is no drain leaves no report of the outbox
  undrained : (w : World) (effect : table.Effect) → IsNumbered w effect → 0 ≡ due at (drained_by effect w.outbox)
  undrained w (Loaded profile id image) is = refl
  undrained w (Unloaded id) is = refl
  undrained w (Changed id change) is = refl
  undrained w Drained is = absurd is
  undrained w (WordPut index value) is = refl
  undrained w (Kept why) is = refl

  balanced_apart : (w : World) (effect : Effect) (ps rs ss : List ℕ) → IsNumbered w effect.on_records → Balanced w ps rs ss → Balanced (world_after effect w) (ps ++ pending_by effect.on_records w.events) (rs ++ []) (ss ++ silent_by effect.on_records w.records)
  balanced_apart w effect ps rs ss numbered is = balanced_by w effect ps rs ss (pending_by effect.on_records w.events) [] is (weigh-pended w effect.on_records numbered) (undrained w effect.on_records numbered)

  -- a drain makes nothing pending, and takes the outbox
  weigh-pended_drain : (w : World) (time : ℕ) (dues : List Due) → weigh (pending_by (drain_effect time dues).on_records w.events) ≡ weight.pended_by at (drain_effect time dues).on_records w.records
  weigh-pended_drain w time [] = refl
  weigh-pended_drain w time (d ∷ ds) = refl

  weigh-drained : (time : ℕ) (dues : List Due) → gives time dues ≡ true → weigh (flat_map (report_numbers time) dues) ≡ due at (drained_by (drain_effect time dues).on_records dues)
  weigh-drained time [] is = refl
  weigh-drained time (d ∷ ds) is = ap weigh (reported_once time (d ∷ ds) is) ∙ weigh-due (d ∷ ds)

  balanced_step : (w : World) (ps rs ss : List ℕ) (e : Event) → ((time : ℕ) → gives time w.outbox ≡ true) → Balanced w ps rs ss → Balanced (after w e).world (ps ++ becomes_pending w e) (rs ++ drain_numbers w e) (ss ++ silent_in w e)
  balanced_step w ps rs ss (world.Request by time octets) one is = balanced_apart w (effect_of w (world.Request by time octets)) ps rs ss (numbered_request w (telecommand_of w.apid octets) time) is
  balanced_step w ps rs ss (world.Step by id) one is = balanced_apart w (effect_of w (world.Step by id)) ps rs ss (numbered_step w id) is
  balanced_step w ps rs ss (world.Debug by id c) one is = balanced_apart w (effect_of w (world.Debug by id c)) ps rs ss (numbered_debug w c id) is
  balanced_step w ps rs ss (world.Put by index value) one is = balanced_apart w (effect_of w (world.Put by index value)) ps rs ss (numbered_put w (nat_lt index (length w.pool)) index value) is
  balanced_step w ps rs ss (world.Drain by time) one is =
      balanced_by w (drain_effect time w.outbox) ps rs ss (becomes_pending w (world.Drain by time)) (drain_numbers w (world.Drain by time)) is
      (weigh-pended_drain w time w.outbox) (weigh-drained time w.outbox (one time))

-- ---- over every list of events

-- what holds of the world alone
along : (P : World → Type 0) → ((w : World) (e : Event) → P w → P (after w e).world) → (w : World) (es : List Event) → P w → P (replay_from w es)
along P step w [] p = p
along P step w (e ∷ es) p = along P step (after w e).world es (step w e p)

abbrev add_pended : World → Event → List ℕ → List ℕ
add_pended w e ns = ns ++ becomes_pending w e

abbrev add_reported : World → Event → List ℕ → List ℕ
add_reported w e ns = ns ++ drain_numbers w e

abbrev add_silent : World → Event → List ℕ → List ℕ
add_silent w e ns = ns ++ silent_in w e

abbrev Gives : World → Type 0
Gives w = (time : ℕ) → gives time w.outbox ≡ true

gives_step : (w : World) (e : Event) → Gives w → Gives (after w e).world
gives_step w e is time = gives_outbox time (effect_of w e).on_records w.records w.outbox (is time)

pub each_gives_one_report : EachGivesOneReport
each_gives_one_report profile apid words es time = along Gives gives_step (opening profile apid words) es (λ t. refl) time

module _ (f : ℕ → ℕ) where
  balanced : (profile : Profile) (apid words : ℕ) (es : List Event) → Balanced f (replay profile apid words es) (all_pending profile apid words es) (all_drain_numbers profile apid words es) (all_silent profile apid words es)
  balanced profile apid words es = (carried_along add_pended add_reported add_silent (λ w ps rs ss. Gives w × Balanced f w ps rs ss)
      (λ w ps rs ss e is. (gives_step w e is.0, balanced_step f w ps rs ss e is.0 is.1)) (opening profile apid words) [] [] [] es
      ((λ t. refl), ap (λ n. n + 0) (waiting-empty (at f)))).1

  weigh-places : (profile : Profile) (apid words : ℕ) (es : List Event) → weigh f (places profile apid words es) ≡ weigh f (all_pending profile apid words es)
  weigh-places profile apid words es =
      let w = replay profile apid words es in
      let ps = pending_numbers w.records in
      let ds = due_numbers w.outbox in
      let rs = all_drain_numbers profile apid words es in
      let ss = all_silent profile apid words es in
      let last = weigh-append f (ps ++ ds ++ rs) ss in
      let third = weigh-append f (ps ++ ds) rs in
      let second = weigh-append f ps ds in
      let held = weigh-pending f w.records in
      let waits = weigh-due f w.outbox in
      let is = balanced profile apid words es in
      omega (arith, last, third, second, held, waits, is)

-- ---- each number became pending at most once

module _ (n : ℕ) where
  -- and not yet, if it is that of an event to come
  abbrev Fresh : ℕ → List ℕ → Type 0
  Fresh events ns = (count n ns ≤ 1) × (events ≤ n → count n ns ≡ 0)

  abbrev is_n : ℕ → ℕ
  is_n m = cond (m == n) 1 0

  fresh_push : (events : ℕ) (ns : List ℕ) (c : ℕ) → c ≡ count n ns + is_n events → Fresh events ns → (c ≤ 1) × (events + 1 ≤ n → c ≡ 0)
  fresh_push events ns c is fresh = elim (events == n) as (λ b. (events == n) ≡ b → c ≡ count n ns + cond b 1 0 → (c ≤ 1) × (events + 1 ≤ n → c ≡ 0)) [
    | true ↦ λ e now. let same : events ≡ n = eqb-true events n e in own (count n ns) same (fresh.1 (omega arith)) now
    | false ↦ λ e now. other (count n ns) (eqb-false events n e) fresh now
  ] refl is
    where
      own : (k : ℕ) → events ≡ n → k ≡ 0 → c ≡ k + 1 → (c ≤ 1) × (events + 1 ≤ n → c ≡ 0)
      own k same none now = (omega arith, λ later. absurd (omega arith))

      other : (k : ℕ) → (events ≡ n → ⊥) → (k ≤ 1) × (events ≤ n → k ≡ 0) → c ≡ k + 0 → (c ≤ 1) × (events + 1 ≤ n → c ≡ 0)
      other k apart old now = let one = old.0 in (omega arith, λ later. let none = old.1 (omega arith) in omega arith)

  fresh_step : (w : World) (ns : List ℕ) (e : Event) → Fresh w.events ns → Fresh (after w e).world.events (ns ++ becomes_pending w e)
  fresh_step w ns e fresh =
      let next = events_by (effect_of w e).reply w.events in
      ⊎_elim
      (λ same. subst (λ x. Fresh next (ns ++ x)) (sym same.0) (subst (Fresh next) (sym (append-nil ns)) (fresh.0, λ later. fresh.1 (omega arith))))
      (λ own. subst (λ x. Fresh next (ns ++ x)) (sym own.0) (subst (λ k. Fresh k (ns ++ w.events ∷ [])) (sym own.1) (fresh_push w.events ns (count n (ns ++ w.events ∷ [])) (sum_by_push is_n ns w.events) fresh)))
      (counts w e)

  few : (profile : Profile) (apid words : ℕ) (es : List Event) → count n (all_pending profile apid words es) ≤ 1
  few profile apid words es = (carried_along {T = ℕ} {U = ℕ} add_pended (λ w e t. t) (λ w e u. u) (λ w ns t u. Fresh w.events ns) (λ w ns t u e is. fresh_step w ns e is) (opening profile apid words) [] 0 0 es (omega arith, λ later. refl)).0

  once : (ns : List ℕ) → count n ns ≤ 1 → count n ns ≡ cond (is_in n ns) 1 0
  once [] few = refl
  once (k ∷ ns) few = sum_by-cons is_n k ns ∙ elim (k == n) as (λ b. cond b 1 0 + count n ns ≤ 1 → (count n ns ≤ 1 → count n ns ≡ cond (is_in n ns) 1 0) → cond b 1 0 + count n ns ≡ cond (b || is_in n ns) 1 0) [
    | true ↦ λ one rest. only (count n ns) one
    | false ↦ λ one rest. other (count n ns) (cond (is_in n ns) 1 0) one rest
  ] (subst (λ k. k ≤ 1) (sum_by-cons is_n k ns) few) (once ns)
    where
      only : (k : ℕ) → 1 + k ≤ 1 → 1 + k ≡ 1
      only k one = omega arith

      other : (k x : ℕ) → 0 + k ≤ 1 → (k ≤ 1 → k ≡ x) → 0 + k ≡ x
      other k x one rest = let same = rest (omega arith) in omega arith

pub each_stands_once : EachStandsOnce
each_stands_once profile apid words es n = weigh-places (is_n n) profile apid words es ∙ once n (all_pending profile apid words es) (few n profile apid words es)

pub is_reported_once_at_most : IsReportedOnceAtMost
is_reported_once_at_most profile apid words es n = let is = balanced (is_n n) profile apid words es in let one = few n profile apid words es in omega (arith, is, one)

-- ---- places

roomy_change : (w : World) (o : Option Rec) (change : Change) → IsNumberedChange w o change → IsRoomy (has_no_place w) (Changed 0 change)
roomy_change w o (Pended p) is = is.1.1
roomy_change w o change is = tt

roomy : (w : World) (effect : table.Effect) → IsNumbered w effect → IsRoomy (has_no_place w) effect
roomy w (Changed id change) is = roomy_change w (get w.records id) change is
roomy w Drained is = absurd is
roomy w effect is = tt

roomy_drain : (full : Bool) (time : ℕ) (dues : List Due) → IsRoomy full (drain_effect time dues).on_records
roomy_drain full time [] = tt
roomy_drain full time (d ∷ ds) = tt

roomy_event : (w : World) (e : Event) → IsRoomy (has_no_place w) (effect_of w e).on_records
roomy_event w (world.Request by time octets) = roomy w _ (numbered_request w (telecommand_of w.apid octets) time)
roomy_event w (world.Step by id) = roomy w _ (numbered_step w id)
roomy_event w (world.Debug by id c) = roomy w _ (numbered_debug w c id)
roomy_event w (world.Drain by time) = roomy_drain (has_no_place w) time w.outbox
roomy_event w (world.Put by index value) = roomy w _ (numbered_put w (nat_lt index (length w.pool)) index value)

pub places_step : (w : World) (e : Event) → HasPlaces w.records w.outbox → HasPlaces (after w e).world.records (after w e).world.outbox
places_step w e fits = outbox_fits w.records w.outbox fits (effect_of w e).on_records (roomy_event w e)

pub places_suffice : PlacesSuffice
places_suffice profile apid words es = along (λ w. HasPlaces w.records w.outbox) places_step (opening profile apid words) es (subst (λ n. 0 + n ≤ 64) (sym pendings-empty) (omega arith))
