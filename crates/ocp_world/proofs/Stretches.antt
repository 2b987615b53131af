-- A slice of a procedure that the table finds once, against steps of the world.
use Rattle.std.proofs.Common.{◌≡◌, ℕ, zero, suc, true, false, cond, List, [], ◌++◌, ◌%◌, replicate, length, Option, Some, None, refl, sym, ap, ◌∙◌, arith}
use Rattle.std.specs.Prelude.{is_some}
use Rattle.std.proofs.lemmas.List.{append-nil}
use Rattle.std.proofs.lemmas.Bool.Decides.{nat_tests}
use Rattle.std.specs.Ordering.{nat_cmp, eq_by_cmp}
use Rattle.std.specs.Cmp.{nat_cmp_total, unsigned_tied}
use Rattle.std.specs.FinMap.{get, insert, get-insert}
use Rattle.obcp_types.specs.declared.status.Status.{Status}
use Rattle.obcp_types.specs.declared.status.Status.TheVariants.{Inactive, Running, Held}
use Rattle.ocp_table.specs.declared.answers.InstructionOutcome.{InstructionOutcome}
use Rattle.ocp_table.specs.declared.answers.InstructionOutcome.TheVariants.{Broke, Ran, Called, Ended, Faulted}
use Rattle.ocp_table.specs.declared.answers.StepOutcome.{StepOutcome}
use Rattle.ocp_table.specs.Records.{Rec, Records}
use Rattle.ocp_table.specs.Effects.{Effect, Stepped, record_by, records_by, with_change}
use Rattle.ocp_table.specs.RequestTable as directive
use Rattle.ocp_table.specs.RequestTable.{transition}
use Rattle.ocp_table.specs.Deciding.{effect_in, effect_on, effect_by, effect_of_step, outcome_in, is_full}
use Rattle.ocp_table.specs.Slices.{Store, is_traced, store_after_events}
use Rattle.ocp_table.specs.Slices as table
use Rattle.ocp_debug.specs.Traces.{last_traces, traces_by, traces_by_change, traces_of, traces_if}
use Rattle.ocp_world.specs.declared.state.State.{State}
use Rattle.ocp_world.specs.Mirror.State.{IsWorld}
use Rattle.ocp_world.specs.World.{World, Step}
use Rattle.ocp_world.specs.After.{after}
use Rattle.ocp_world.specs.Replay.{replay_from}
use Rattle.ocp_table.specs.declared.answers.Extent.{Extent}
use Rattle.ocp_table.specs.declared.answers.Extent.TheVariants as extents
use Rattle.ocp_world.specs.Slice.{slice_count, slice_last, goes_on, next_outcome}
use Rattle.ocp_world.specs.Round.{step_ended, step_at, round_budget, most_events}

abbrev pub store_of : World → Store
store_of w = record { records = w.records; outbox = w.outbox; pool = w.pool }

-- ---- the slice of a world is that of its store

pub same_count : (w : World) (by id budget : ℕ) → slice_count w by id budget ≡ table.slice_count id (store_of w) budget
same_count w by id zero = refl
same_count w by id (suc budget) = ap (λ n. cond (goes_on w by id) (suc n) 1) (same_count (after w (Step by id)).world by id budget)

pub same_last : (w : World) (by id : ℕ) (last : StepOutcome) (budget : ℕ) → slice_last w by id last budget ≡ table.slice_last id (store_of w) last budget
same_last w by id last zero = refl
same_last w by id last (suc budget) =
    ap (λ o. cond (goes_on w by id) o (next_outcome w id)) (same_last (after w (Step by id)).world by id (next_outcome w id) budget)

same_round : (w : World) (by id budget : ℕ) → round_budget w by id budget ≡ table.round_budget id (store_of w) budget
same_round w by id zero = refl
same_round w by id (suc budget) =
    ap (λ n. cond (is_some (step_ended w id)) 1 (suc n)) (same_round (after w (Step by id)).world by id budget)

pub same_most : (extent : Extent) (w : World) (by id budget : ℕ) → most_events extent w by id budget ≡ table.most_events extent id (store_of w) budget
same_most extents.Slice w by id budget = refl
same_most extents.Round w by id budget = same_round w by id budget

-- by how far they go
pub whole_count : (extent : Extent) (w : World) (by id budget : ℕ) → slice_count w by id (most_events extent w by id budget) ≡ table.slice_count id (store_of w) (table.most_events extent id (store_of w) budget)
whole_count extent w by id budget = ap (slice_count w by id) (same_most extent w by id budget) ∙ same_count w by id (table.most_events extent id (store_of w) budget)

pub whole_last : (extent : Extent) (w : World) (by id : ℕ) (last : StepOutcome) (budget : ℕ) → slice_last w by id last (most_events extent w by id budget) ≡ table.slice_last id (store_of w) last (table.most_events extent id (store_of w) budget)
whole_last extent w by id last budget = ap (slice_last w by id last) (same_most extent w by id budget) ∙ same_last w by id last (table.most_events extent id (store_of w) budget)

-- ---- the world after its steps

module _ (by id : ℕ) where
  abbrev steps : ℕ → World → World
  steps n w = replay_from w (replicate n (Step by id))

  pub same_store : (n : ℕ) (w : World) → store_of (steps n w) ≡ store_after_events id n (store_of w)
  same_store zero w = refl
  same_store (suc n) w = same_store n (after w (Step by id)).world

  pub same_step : (n : ℕ) (w : World) → step_at w by id n ≡ table.step_at id n (store_of w)
  same_step zero w = refl
  same_step (suc n) w = ap (λ s. table.step_ended (table.effect_of_event id s)) (same_store n w)

  pub same_profile : (n : ℕ) (w : World) → (steps n w).profile ≡ w.profile
  same_profile zero w = refl
  same_profile (suc n) w = same_profile n (after w (Step by id)).world

  pub same_apid : (n : ℕ) (w : World) → (steps n w).apid ≡ w.apid
  same_apid zero w = refl
  same_apid (suc n) w = same_apid n (after w (Step by id)).world

  pub same_reports : (n : ℕ) (w : World) → (steps n w).reports ≡ w.reports
  same_reports zero w = refl
  same_reports (suc n) w = same_reports n (after w (Step by id)).world

-- ---- a procedure that is not traced makes no trace records, and is not traced afterwards

no_traces_of : (id : ℕ) (outcome : InstructionOutcome) (r : Rec) → r.traced ≡ false → traces_of id outcome r ≡ []
no_traces_of id Broke r off = refl
no_traces_of id Ran r off = ap (λ b. traces_if b id Ran r) off
no_traces_of id (Called call) r off = ap (λ b. traces_if b id (Called call) r) off
no_traces_of id Ended r off = ap (λ b. traces_if b id Ended r) off
no_traces_of id (Faulted number) r off = ap (λ b. traces_if b id (Faulted number) r) off

-- what an event leaves of a procedure that is not traced
record IsUntraced (id : ℕ) (m : Records) (e : Effect) : Type 0 where
  pub none : traces_by e m ≡ []
  pub still : is_traced (get (records_by e m) id) ≡ false

module _ (id : ℕ) (m : Records) (pool : List ℕ) where
  got : (r : Rec) → get (insert m id r) id ≡ Some r
  got r =
      let same : eq_by_cmp nat_cmp id id ≡ true = unsigned_tied id id ∙ grind (arith, nat_tests) in
      get-insert nat_cmp_total m id r id ∙ ap (λ b. cond b (Some r) (get m id)) same

  untraced_outcome : (r : Rec) → get m id ≡ Some r → r.traced ≡ false → (o : Option InstructionOutcome) → IsUntraced id m (effect_of_step o id)
  untraced_outcome r held off None = record { none = refl; still = ap is_traced held ∙ off }
  untraced_outcome r held off (Some outcome) = record {
    none = ap (traces_by_change id (Stepped outcome)) held ∙ no_traces_of id outcome r off;
    still = ap (λ o. is_traced (get (with_change o id (Stepped outcome) m) id)) held ∙ ap is_traced (got (record_by (Stepped outcome) r)) ∙ off;
  }

  untraced_status : (r : Rec) → get m id ≡ Some r → r.traced ≡ false → (s : Status) → IsUntraced id m (effect_by (transition (directive.Step pool) (Some s) r.control.pending (length r.mailbox)) id (Some r) (is_full m))
  untraced_status r held off Inactive = record { none = refl; still = ap is_traced held ∙ off }
  untraced_status r held off Running = untraced_outcome r held off (outcome_in r pool)
  untraced_status r held off Held = record { none = refl; still = ap is_traced held ∙ off }

  untraced_record : (o : Option Rec) → get m id ≡ o → is_traced o ≡ false → IsUntraced id m (effect_on (directive.Step pool) id o (is_full m))
  untraced_record None held off = record { none = refl; still = ap is_traced held }
  untraced_record (Some r) held off = untraced_status r held off r.control.status

  untraced : is_traced (get m id) ≡ false → IsUntraced id m (effect_in (directive.Step pool) id m)
  untraced off = untraced_record (get m id) refl off

pub same_traces : (by id n : ℕ) (w : World) → is_traced (get w.records id) ≡ false → (replay_from w (replicate n (Step by id))).traces ≡ w.traces
same_traces by id zero w off = refl
same_traces by id (suc n) w off =
    let event = untraced id w.records w.pool off in
    same_traces by id n (after w (Step by id)).world event.still
    ∙ ap (λ t. w.traces ++ t) event.none
    ∙ append-nil w.traces

-- ---- the state after a slice that its table did

module _ {A : Type 0} where
  abbrev pub store_in : State A → Store
  store_in s = record { records = s.table.records; outbox = s.table.outbox; pool = s.pool }

  same_start : (s : State A) (w : World) → IsWorld w s → store_in s ≡ store_of w
  same_start s w stands = λ i. record { records = stands.records i; outbox = stands.outbox i; pool = stands.pool i }

  pub sliced : (old now : State A) (id n : ℕ) → is_traced (get old.table.records id) ≡ false → store_after_events id n (store_in old) ≡ store_in now → now.table.profile ≡ old.table.profile → now.sender.apid ≡ old.sender.apid → now.sender.count ≡ old.sender.count → now.ring ≡ old.ring → (w : World) (by : ℕ) → IsWorld w old → IsWorld (replay_from w (replicate n (Step by id))) now
  sliced old now id n off done profile apid count ring w by stands =
      let whole : store_of (replay_from w (replicate n (Step by id))) ≡ store_in now = same_store by id n w ∙ ap (store_after_events id n) (sym (same_start old w stands)) ∙ done in
      let same_off : is_traced (get w.records id) ≡ false = ap (λ m. is_traced (get m id)) (sym stands.records) ∙ off in
      record {
        profile = profile ∙ stands.profile ∙ sym (same_profile by id n w);
        apid = apid ∙ stands.apid ∙ sym (same_apid by id n w);
        records = sym (ap (λ s. s.records) whole);
        outbox = sym (ap (λ s. s.outbox) whole);
        pool = sym (ap (λ s. s.pool) whole);
        count = count ∙ stands.count ∙ ap (λ k. k % 16384) (sym (same_reports by id n w));
        ring = ring ∙ stands.ring ∙ ap last_traces (sym (same_traces by id n w same_off));
      }

  pub sliced_count : (extent : Extent) (old : State A) (id budget k : ℕ) → k ≡ table.slice_count id (store_in old) (table.most_events extent id (store_in old) budget) → (w : World) (by : ℕ) → IsWorld w old → k ≡ slice_count w by id (most_events extent w by id budget)
  sliced_count extent old id budget k is w by stands =
      is ∙ ap (λ s. table.slice_count id s (table.most_events extent id s budget)) (same_start old w stands) ∙ sym (whole_count extent w by id budget)

  pub sliced_last : (extent : Extent) (old : State A) (id budget : ℕ) (last o : StepOutcome) → o ≡ table.slice_last id (store_in old) last (table.most_events extent id (store_in old) budget) → (w : World) (by : ℕ) → IsWorld w old → o ≡ slice_last w by id last (most_events extent w by id budget)
  sliced_last extent old id budget last o is w by stands =
      is ∙ ap (λ s. table.slice_last id s last (table.most_events extent id s budget)) (same_start old w stands) ∙ sym (whole_last extent w by id last budget)

  pub sliced_step : (old : State A) (id n : ℕ) (step : Option ℕ) → step ≡ table.step_at id n (store_in old) → (w : World) (by : ℕ) → IsWorld w old → step ≡ step_at w by id n
  sliced_step old id n step is w by stands = is ∙ ap (table.step_at id n) (same_start old w stands) ∙ sym (same_step by id n w)
