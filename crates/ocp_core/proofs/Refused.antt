-- A slice whose first instruction event is refused.
use Rattle.std.proofs.Common.{◌≡◌, ◌≤◌, ℕ, zero, suc, Bool, true, false, cond, List, Option, Some, None, replicate, inl, inr, refl, sym, ap, subst, ◌∙◌, arith}
use Rattle.std.specs.Prelude.{◌⊎◌, Result, Ok, Err}
use Rattle.std.specs.Result.{result_err}
use Rattle.std.specs.FinMap.{get}
use Rattle.ocp_table.specs.declared.answers.StepOutcome.{StepOutcome}
use Rattle.ocp_table.specs.declared.answers.StepOutcome.TheVariants as S
use Rattle.ocp_table.specs.RequestTable as directive
use Rattle.ocp_table.specs.Deciding.{effect_in}
use Rattle.ocp_table.specs.Effects.{refusal_of}
use Rattle.ocp_world.specs.declared.state.State.{State}
use Rattle.ocp_world.specs.World.{World, Step}
use Rattle.ocp_world.specs.After.{Stepped, after, is_accepted, is_done}
use Rattle.ocp_world.specs.Mirror.Answering.{IsRefusal as IsRefusedAs}
use Rattle.ocp_world.specs.Mirror.State.{IsWorld}
use Rattle.ocp_world.specs.Replay.{replay_from}
use Rattle.ocp_world.specs.Slice.{goes_on, is_on, is_running, next_outcome, slice_count, slice_last}
use Rattle.ocp_world.proofs.Refusals.{refused_keeps, refused_so}

off : (o : StepOutcome) → is_done o ≡ false → is_on o ≡ false
off S.Ran refused = absurd (cc)
off S.Called refused = absurd (cc)
off other refused = refl

abbrev IsRefusal : StepOutcome → Type 0
IsRefusal o = (o ≡ S.NotLoaded) ⊎ ((o ≡ S.NotRunning) ⊎ (o ≡ S.JournalFull))

undone : (o : StepOutcome) → IsRefusal o → is_done o ≡ false
undone o (inl is) = ap is_done is
undone o (inr (inl is)) = ap is_done is
undone o (inr (inr is)) = ap is_done is

done : (o : StepOutcome) → (o ≡ S.NotLoaded → ⊥) → (o ≡ S.NotRunning → ⊥) → (o ≡ S.JournalFull → ⊥) → is_done o ≡ true
done S.NotLoaded loaded running roomy = absurd (loaded refl)
done S.NotRunning loaded running roomy = absurd (running refl)
done S.JournalFull loaded running roomy = absurd (roomy refl)
done other loaded running roomy = refl

module _ (w : World) (by id : ℕ) where
  abbrev first : Bool
  first = is_accepted (after w (Step by id)).answer

  module _ (refused : first ≡ false) where
    stays : goes_on w by id ≡ false
    stays = ap (λ b. cond b (is_running (get (after w (Step by id)).world.records id)) false) (off (next_outcome w id) refused)

    refused_count : (most : ℕ) → 1 ≤ most → slice_count w by id most ≡ 1
    refused_count zero some = absurd (omega (arith, some))
    refused_count (suc most) some = ap (λ b. cond b (suc (slice_count (after w (Step by id)).world by id most)) 1) stays

    pub refused_last : (most : ℕ) → 1 ≤ most → slice_last w by id S.Ran most ≡ next_outcome w id
    refused_last zero some = absurd (omega (arith, some))
    refused_last (suc most) some = ap (λ b. cond b (slice_last (after w (Step by id)).world by id (next_outcome w id) most) (next_outcome w id)) stays

    -- the world is as it was
    pub refused_world : (most count : ℕ) → 1 ≤ most → count ≡ slice_count w by id most → replay_from w (replicate count (Step by id)) ≡ w
    refused_world most count some is = ap (λ n. replay_from w (replicate n (Step by id))) (is ∙ refused_count most some) ∙ refused_keeps w (Step by id) refused

  module _ (o : StepOutcome) where
    -- the last outcome is a refusal only if the first event is refused
    pub is_refused : (first ≡ true → is_done o ≡ true) → IsRefusal o → first ≡ false
    is_refused accepted is = elim first as (λ b. (b ≡ true → is_done o ≡ true) → b ≡ false) [
      | true ↦ λ all. sym (all refl) ∙ undone o is
      | false ↦ λ all. refl
    ] accepted

    pub is_taken : (most : ℕ) → 1 ≤ most → o ≡ slice_last w by id S.Ran most → is_done o ≡ true → first ≡ true
    is_taken most some is ended = elim first as (λ b. first ≡ b → b ≡ true) [
      | true ↦ λ e. refl
      | false ↦ λ e. sym e ∙ (ap is_done (sym (refused_last e most some) ∙ sym is) ∙ ended)
    ] refl

    pub is_done_of : (o ≡ S.NotLoaded → ⊥) → (o ≡ S.NotRunning → ⊥) → (o ≡ S.JournalFull → ⊥) → is_done o ≡ true
    is_done_of = done o

-- the first instruction is refused in the world as in the table
module _ {A : Type 0} (w : World) (s : State A) (by id : ℕ) (stands : IsWorld w s) (r : Result (Unit {0}) StepOutcome) (told : (pool : List ℕ) → result_err r ≡ refusal_of (effect_in (directive.Step pool) id s.table.records)) where
  as_told : (o : Option StepOutcome) → result_err r ≡ o → IsRefusedAs (after w (Step by id)).answer o
  as_told o is = subst (IsRefusedAs (after w (Step by id)).answer) is (refused_so s.table.records by id w stands.records (result_err r) told)

  pub runs_so : (u : Unit {0}) → r ≡ Ok u → is_accepted (after w (Step by id)).answer ≡ true
  runs_so u is = as_told None (ap result_err is)

  pub refuses_so : (o : StepOutcome) → r ≡ Err o → (is_accepted (after w (Step by id)).answer ≡ false) × (Stepped o ≡ (after w (Step by id)).answer)
  refuses_so o is = as_told (Some o) (ap result_err is)
