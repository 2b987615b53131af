-- The largest number of instructions of a slice or a round.
use Rattle.std.proofs.Common.{◌≡◌, ◌≤◌, ℕ, zero, suc, Bool, true, false, cond, ap, ◌∙◌, arith}
use Rattle.std.specs.Prelude.{is_some}
use Rattle.ocp_table.specs.declared.answers.Extent.{Extent}
use Rattle.ocp_table.specs.declared.answers.Extent.TheVariants as extents
use Rattle.ocp_table.specs.declared.answers.Round.{Round}
use Rattle.ocp_table.specs.declared.answers.Slice.{Slice}
use Rattle.ocp_table.specs.Slices.{slice_of}
use Rattle.ocp_world.specs.World.{World, Step}
use Rattle.ocp_world.specs.After.{after}
use Rattle.ocp_world.specs.Round.{step_ended, step_at, round_budget, most_events}
use Rattle.ocp_core.specs.Slice.{slice_with}
use Rattle.ocp_core.specs.Round.{round_of}

some_of : (b : Bool) (x : ℕ) → 1 ≤ cond b 1 (suc x)
some_of true x = omega arith
some_of false x = omega arith

few_of : (b : Bool) (x budget : ℕ) → x ≤ budget → cond b 1 (suc x) ≤ suc budget
few_of true x budget few = omega arith
few_of false x budget few = omega (arith, few)

pub round_some : (w : World) (by id budget : ℕ) → 1 ≤ budget → 1 ≤ round_budget w by id budget
round_some w by id zero some = absurd (omega (arith, some))
round_some w by id (suc budget) some = some_of (is_some (step_ended w id)) (round_budget (after w (Step by id)).world by id budget)

round_few : (w : World) (by id budget : ℕ) → round_budget w by id budget ≤ budget
round_few w by id zero = omega arith
round_few w by id (suc budget) = few_of (is_some (step_ended w id)) (round_budget (after w (Step by id)).world by id budget) budget (round_few (after w (Step by id)).world by id budget)

pub most_some : (extent : Extent) (w : World) (by id budget : ℕ) → 1 ≤ budget → 1 ≤ most_events extent w by id budget
most_some extents.Slice w by id budget some = some
most_some extents.Round w by id budget some = round_some w by id budget some

pub most_few : (extent : Extent) (w : World) (by id budget : ℕ) → most_events extent w by id budget ≤ budget
most_few extents.Slice w by id budget = omega arith
most_few extents.Round w by id budget = round_few w by id budget

-- a round is a slice, and the number of the step that its last instruction ended
pub rounded : (full : Bool) (extent : Extent) (w : World) (by id budget : ℕ) (r : Round) → extent ≡ extents.Round → slice_of r ≡ slice_with full w by id (most_events extent w by id budget) → r.step ≡ step_at w by id r.count → r ≡ round_of w by id (slice_with full w by id (round_budget w by id budget))
rounded full extent w by id budget r is slice step =
    let sliced = slice ∙ ap (λ e. slice_with full w by id (most_events e w by id budget)) is in
    let ended = step ∙ ap (λ (s : Slice). step_at w by id s.count) sliced in
    λ i. record { count = (sliced i).count; last = (sliced i).last; step = ended i }
