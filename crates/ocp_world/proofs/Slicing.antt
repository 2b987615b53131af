-- A slice or a round of the state, against steps of the world.
use Rattle.std.proofs.Common.{◌≡◌, ℕ, ◌+◌, ◌<◌, Bool, true, false, Option, None, replicate, cond, ◌⊎◌, inl, inr, refl, sym, ap, subst, ◌∙◌, add-one, arith}
use Rattle.std.specs.Prelude.{is_some}
use Rattle.std.specs.FinMap.{get}
use Rattle.ocp_table.specs.declared.answers.Extent.{Extent}
use Rattle.ocp_table.specs.declared.answers.Extent.TheVariants as extents
use Rattle.ocp_table.specs.declared.answers.StepOutcome.{StepOutcome}
use Rattle.ocp_table.specs.declared.answers.StepOutcome.TheVariants.{Ran}
use Rattle.ocp_table.specs.Slices.{Leads, EndNoStep}
use Rattle.ocp_table.proofs.Slicing.{leads-none, leads-one, leads-on, unended-none, unended-one, unended-on, step-none, Comes, comes-whole, comes-end, comes-round}
use Rattle.ocp_world.specs.World.{World, Step}
use Rattle.ocp_world.specs.After.{Stepped, after, is_accepted, is_done}
use Rattle.ocp_world.specs.Replay.{replay_from}
use Rattle.ocp_world.specs.Slice.{goes_on, is_on, is_running, next_outcome, slice_count, slice_last}
use Rattle.ocp_world.specs.Round.{step_ended, step_at, most_events}
use Rattle.ocp_world.proofs.Replays.{replay_from-steps}
use Rattle.ocp_world.proofs.Stretches.{store_of, same_step, whole_count, whole_last}
use Rattle.ocp_world.specs.Mirror.State.{IsWorld}
use Rattle.ocp_world.specs.declared.state.State.{State}

counts_on : (total before n : ℕ) → before ≡ total + n → before + 1 ≡ total + (n + 1)
counts_on total before n is = omega (arith, is)

none_counted : (events : ℕ) → events ≡ events + 0
none_counted events = omega arith

same_outcome : (a b : StepOutcome) → Stepped a ≡ Stepped b → a ≡ b
same_outcome a b is = cc

-- a slice or a round of a store has the same count and outcome in its world
module _ (extent : Extent) (w : World) (by id budget n : ℕ) (o : StepOutcome) (comes : Comes extent id budget (store_of w) n o) where
  pub counted_so : n ≡ slice_count w by id (most_events extent w by id budget)
  counted_so = sym (whole_count extent w by id budget ∙ comes.count)

  pub answered_so : o ≡ slice_last w by id Ran (most_events extent w by id budget)
  answered_so = sym (whole_last extent w by id Ran budget ∙ comes.last)

module _ {A : Type 0} where
  -- n steps of a slice or a round are made
  pub record IsSliced (extent : Extent) (old now : State A) (id n : ℕ) (last : StepOutcome) : Type 0 where
    pub world : (w : World) (by : ℕ) → IsWorld w old → IsWorld (replay_from w (replicate n (Step by id))) now
    pub ready : (w : World) (by : ℕ) → IsWorld w old → is_accepted (after w (Step by id)).answer ≡ true → is_accepted (after (replay_from w (replicate n (Step by id))) (Step by id)).answer ≡ true
    pub events : (w : World) (by : ℕ) → IsWorld w old → is_accepted (after w (Step by id)).answer ≡ true → (replay_from w (replicate n (Step by id))).events ≡ w.events + n
    pub done : (w : World) (by : ℕ) → IsWorld w old → is_accepted (after w (Step by id)).answer ≡ true → is_done last ≡ true
    pub leads : (w : World) (by : ℕ) → IsWorld w old → Leads id n (store_of w) Ran (store_of (replay_from w (replicate n (Step by id)))) last
    pub unended : (w : World) → IsWorld w old → extent ≡ extents.Round → EndNoStep id n (store_of w)

  -- one more step, as the calls ensure it
  pub record IsOneMore (now next : State A) (id : ℕ) (o : StepOutcome) (step : Option ℕ) (on : Bool) : Type 0 where
    pub world : (w : World) (by : ℕ) → IsWorld w now → IsWorld (after w (Step by id)).world next
    pub answer : (w : World) (by : ℕ) → IsWorld w now → Stepped o ≡ (after w (Step by id)).answer
    pub ended : (w : World) → IsWorld w now → step ≡ step_ended w id
    pub goes : (w : World) → IsWorld w next → on ≡ cond (is_on o) (is_running (get w.records id)) false
    pub accepted : (w : World) (by : ℕ) → IsWorld w next → on ≡ true → is_accepted (after w (Step by id)).answer ≡ true

  -- none are made yet
  pub IsSliced-none : (extent : Extent) (old : State A) (id : ℕ) → IsSliced extent old old id 0 Ran
  IsSliced-none extent old id = record {
    world = λ w by stands. stands;
    ready = λ w by stands first. first;
    events = λ w by stands first. none_counted w.events;
    done = λ w by stands first. refl;
    leads = λ w by stands. leads-none id (store_of w) Ran;
    unended = λ w stands is. unended-none id (store_of w);
  }

  module _ (extent : Extent) (old now next : State A) (id n : ℕ) (last o : StepOutcome) (step : Option ℕ) (on : Bool) (so_far : IsSliced extent old now id n last) (more : IsOneMore now next id o step on) where
    module _ (w : World) (by : ℕ) (stands : IsWorld w old) where
      abbrev here : World
      here = replay_from w (replicate n (Step by id))

      outcome_here : o ≡ next_outcome here id
      outcome_here = same_outcome o (next_outcome here id) (more.answer here by (so_far.world w by stands))

      next_here : IsWorld (after here (Step by id)).world next
      next_here = more.world here by (so_far.world w by stands)

      ended_here : step ≡ step_ended here id
      ended_here = more.ended here (so_far.world w by stands)

      tested : goes_on here by id ≡ on
      tested = ap (λ x. cond (is_on x) (is_running (get (after here (Step by id)).world.records id)) false) (sym outcome_here) ∙ sym (more.goes (after here (Step by id)).world next_here)

      pub sliced_world : IsWorld (replay_from w (replicate (n + 1) (Step by id))) next
      sliced_world = subst (λ v. IsWorld v next) (sym (replay_from-steps w by id n)) next_here

      pub sliced_events : is_accepted (after w (Step by id)).answer ≡ true → (replay_from w (replicate (n + 1) (Step by id))).events ≡ w.events + (n + 1)
      sliced_events first =
          ap (λ v. v.events) (replay_from-steps w by id n)
          ∙ ap (λ b. cond b (here.events + 1) here.events) (so_far.ready w by stands first)
          ∙ counts_on w.events here.events n (so_far.events w by stands first)

      pub sliced_done : is_accepted (after w (Step by id)).answer ≡ true → is_done o ≡ true
      sliced_done first = ap is_done outcome_here ∙ so_far.ready w by stands first

      module _ (budget : ℕ) (within : n < budget) where
        ends : on ≡ false → Comes extent id budget (store_of w) (n + 1) o
        ends off = subst (λ x. Comes extent id budget (store_of w) (n + 1) x) (sym outcome_here)
            (comes-end extent id n budget (store_of w) (store_of here) last (so_far.leads w by stands) (so_far.unended w stands) within (tested ∙ off))

        rounds : extent ≡ extents.Round → is_some step ≡ true → Comes extent id budget (store_of w) (n + 1) o
        rounds is some = subst (λ x. Comes extent id budget (store_of w) (n + 1) x) (sym outcome_here)
            (comes-round extent id n budget (store_of w) (store_of here) last (so_far.leads w by stands) (so_far.unended w stands) within is (ap (λ (x : Option ℕ). is_some x) (sym ended_here) ∙ some))

        -- after it the slice does not go on, or the round ends
        last_one : (on ≡ false) ⊎ ((extent ≡ extents.Round) × (is_some step ≡ true)) → Comes extent id budget (store_of w) (n + 1) o
        last_one (inl off) = ends off
        last_one (inr round) = rounds round.0 round.1

        pub ended_count : (on ≡ false) ⊎ ((extent ≡ extents.Round) × (is_some step ≡ true)) → n + 1 ≡ slice_count w by id (most_events extent w by id budget)
        ended_count is = counted_so extent w by id budget (n + 1) o (last_one is)

        pub ended_last : (on ≡ false) ⊎ ((extent ≡ extents.Round) × (is_some step ≡ true)) → o ≡ slice_last w by id Ran (most_events extent w by id budget)
        ended_last is = answered_so extent w by id budget (n + 1) o (last_one is)

      -- the step that it ends
      pub sliced_step : step ≡ step_at w by id (n + 1)
      sliced_step = ended_here ∙ ap (step_at w by id) (sym (add-one n))

    pub IsSliced-more : on ≡ true → (extent ≡ extents.Round → step ≡ None) → IsSliced extent old next id (n + 1) o
    IsSliced-more still none = record {
      world = λ w by stands. sliced_world w by stands;
      ready = λ w by stands first. more.accepted (replay_from w (replicate (n + 1) (Step by id))) by (sliced_world w by stands) still;
      events = λ w by stands first. sliced_events w by stands first;
      done = λ w by stands first. sliced_done w by stands first;
      leads = λ w by stands.
          let one = leads-one id (store_of (here w by stands)) last (tested w by stands ∙ still) in
          subst (λ v. Leads id (n + 1) (store_of w) Ran (store_of v) o) (sym (replay_from-steps w by id n))
          (leads-on id n 1 (store_of w) (store_of (here w by stands)) (store_of (after (here w by stands) (Step by id)).world) Ran last o (so_far.leads w by stands)
          (subst (λ x. Leads id 1 (store_of (here w by stands)) last (store_of (after (here w by stands) (Step by id)).world) x) (sym (outcome_here w by stands)) one));
      unended = λ w stands is.
          unended-on id n 1 (store_of w) (store_of (here w 0 stands)) (so_far.leads w 0 stands).store (so_far.unended w stands is)
          (unended-one id (store_of (here w 0 stands)) (sym (ended_here w 0 stands) ∙ none is));
    }

  -- the budget is used
  module _ (extent : Extent) (old now : State A) (id n budget : ℕ) (last : StepOutcome) (so_far : IsSliced extent old now id n last) (used : n ≡ budget) (w : World) (by : ℕ) (stands : IsWorld w old) where
    all_used : Comes extent id budget (store_of w) budget last
    all_used = subst (λ k. Comes extent id budget (store_of w) k last) used (comes-whole extent id n budget (store_of w) _ last (so_far.leads w by stands) (so_far.unended w stands) used)

    pub whole_is_counted : budget ≡ slice_count w by id (most_events extent w by id budget)
    whole_is_counted = counted_so extent w by id budget budget last all_used

    pub whole_is_answered : last ≡ slice_last w by id Ran (most_events extent w by id budget)
    whole_is_answered = answered_so extent w by id budget budget last all_used

    pub whole_ends_none : extent ≡ extents.Round → None ≡ step_at w by id budget
    whole_ends_none is = sym (ap (step_at w by id) (sym used) ∙ same_step by id n w ∙ step-none id n (store_of w) (so_far.unended w stands is))
