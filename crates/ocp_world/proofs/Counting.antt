-- Each event of a slice whose last instruction is done is accepted.
use Rattle.std.proofs.Common.{◌≡◌, ℕ, zero, suc, ◌+◌, Bool, true, false, cond, List, length, Option, Some, None, replicate, refl, sym, ap, subst, ◌∙◌, arith}
use Rattle.ocp_table.specs.declared.answers.StepOutcome.{StepOutcome}
use Rattle.ocp_table.specs.declared.answers.StepOutcome.TheVariants as S
use Rattle.std.specs.FinMap.{get}
use Rattle.obcp_types.specs.declared.status.Status.TheVariants.{Inactive, Running, Held}
use Rattle.ocp_table.specs.Records.{Rec, Records}
use Rattle.ocp_table.specs.Effects.{step_outcome}
use Rattle.ocp_table.specs.RequestTable as directive
use Rattle.ocp_table.specs.RequestTable.{transition}
use Rattle.ocp_table.specs.Deciding.{effect_on, effect_by, is_full}
use Rattle.ocp_table.specs.Slices as table
use Rattle.ocp_world.specs.World.{World, Step}
use Rattle.ocp_world.specs.After.{after, is_done, is_accepted}
use Rattle.ocp_world.specs.Replay.{replay_from}
use Rattle.ocp_world.specs.Slice.{goes_on, is_on, next_outcome, slice_count, slice_last}

-- an instruction after which a slice goes on is done
on_done : (o : StepOutcome) (more : Bool) → cond (is_on o) more false ≡ true → is_done o ≡ true
on_done S.Broke more on = refl
on_done S.Ran more on = refl
on_done S.Called more on = refl
on_done S.Ended more on = refl
on_done (S.Faulted number) more on = refl
on_done S.NotLoaded more on = absurd (cc)
on_done S.NotRunning more on = absurd (cc)
on_done S.JournalFull more on = absurd (cc)

runs : (pool : List ℕ) (o : Option Rec) (id : ℕ) (full : Bool) → is_done (step_outcome (effect_on (directive.Step pool) id o full)) ≡ true → table.is_running o ≡ true
runs pool None id full done = absurd (cc)
runs pool (Some r) id full done =
    elim r.control.status as (λ s. is_done (step_outcome (effect_by (transition (directive.Step pool) (Some s) r.control.pending (length r.mailbox)) id (Some r) full)) ≡ true → table.is_running_status s ≡ true) [
      | Inactive ↦ λ h. absurd (cc)
      | Running ↦ λ h. refl
      | Held ↦ λ h. absurd (cc)
    ] done

module _ (by id : ℕ) where
  one_counted : (w : World) → is_done (next_outcome w id) ≡ true → (after w (Step by id)).world.events ≡ w.events + 1
  one_counted w done = ap (λ b. cond b (w.events + 1) w.events) done

  abbrev IsCounted : World → ℕ → Type 0
  IsCounted w n = (replay_from w (replicate n (Step by id))).events ≡ w.events + n

  one_more : (before next count after : ℕ) → next ≡ before + 1 → after ≡ next + count → after ≡ before + suc count
  one_more before next count after first more = omega (arith, first, more)

  counted : (w : World) (last : StepOutcome) (budget : ℕ) → is_done (slice_last w by id last budget) ≡ true → IsCounted w (slice_count w by id budget)
  counted w last zero done = omega arith
  counted w last (suc budget) done =
      let step = after w (Step by id) in
      let outcome = next_outcome w id in
      let count = slice_count step.world by id budget in
      elim (goes_on w by id) as (λ b. goes_on w by id ≡ b → is_done (cond b (slice_last step.world by id outcome budget) outcome) ≡ true → IsCounted w (cond b (suc count) 1)) [
        | true ↦ λ on ended. one_more w.events step.world.events count (replay_from step.world (replicate count (Step by id))).events (one_counted w (on_done outcome _ on)) (counted step.world outcome budget ended)
        | false ↦ λ off ended. one_counted w ended
      ] refl done

  -- an instruction that is accepted is one of a running procedure
  pub accepted_runs : (m : Records) (w : World) → m ≡ w.records → is_accepted (after w (Step by id)).answer ≡ true → table.is_running (get m id) ≡ true
  accepted_runs m w same first = ap (λ n. table.is_running (get n id)) same ∙ runs w.pool (get w.records id) id (is_full w.records) first

  pub slice_counted : (w : World) (budget n : ℕ) (last : StepOutcome) → n ≡ slice_count w by id budget → last ≡ slice_last w by id S.Ran budget → is_done last ≡ true → (replay_from w (replicate n (Step by id))).events ≡ w.events + n
  slice_counted w budget n last count is done = subst (IsCounted w) (sym count) (counted w S.Ran budget (ap is_done (sym is) ∙ done))
