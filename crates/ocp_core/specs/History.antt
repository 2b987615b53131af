-- What the events of a list did to the records of a world, one effect each, in order.
use Rattle.std.specs.Prelude.{◌≡◌, ℕ, false, List, [], ◌∷◌, Option, Some}
use Rattle.obcp_types.specs.declared.status.Status.TheVariants.{Running}
use Rattle.bpf_step.specs.declared.answer.Need.{Need}
use Rattle.bpf_step.specs.Machine.{Needs}
use Rattle.bpf_step.specs.Step.{one_step}
use Rattle.bpf_step.specs.Runs.{breaks_at}
use Rattle.ocp_table.specs.Budgets.{is_spent}
use Rattle.ocp_table.specs.Records.{Rec}
use Rattle.ocp_profile.specs.declared.profile.Profile.{Profile}
use Rattle.ocp_table.specs.declared.answers.InstructionOutcome.{InstructionOutcome}
use Rattle.ocp_table.specs.Effects.{Effect, Changed, Stepped}
use Rattle.ocp_world.specs.World.{World, Event, Step, opening}
use Rattle.ocp_world.specs.After.{effect_of, after}

abbrev pub history_from : World → List Event → List Effect
history_from w [] = []
history_from w (e ∷ es) = (effect_of w e).on_records ∷ history_from (after w e).world es

-- from a new engine with this application process and `words` pool words
abbrev pub history : Profile → ℕ → ℕ → List Event → List Effect
history profile apid words es = history_from (opening profile apid words) es

-- what is gathered from effects, the first one first
abbrev pub gather : {S : Type 0} → (Effect → S → S) → S → List Effect → S
gather add s [] = s
gather add s (effect ∷ effects) = gather add (add effect s) effects

-- what is gathered from events, each with the world before it
abbrev pub gather_along : {S : Type 0} → (World → Event → S → S) → S → World → List Event → S
gather_along add s w [] = s
gather_along add s w (e ∷ es) = gather_along add (add w e s) (after w e).world es

-- an instruction event of the procedure, by this seat, has this outcome
abbrev pub Does : World → ℕ → ℕ → InstructionOutcome → Type 0
Does w by id outcome = (effect_of w (Step by id)).on_records ≡ Changed id (Stepped outcome)

-- the next instruction of a procedure has this need: the procedure runs, no breakpoint holds it,
-- and its budget is not spent
pub record NeedsNext (o : Option Rec) (need : Need) : Type 0 where
  pub rec : Rec
  pub is : o ≡ Some rec
  pub runs : rec.control.status ≡ Running
  pub passes : breaks_at rec.control.pass rec.breakpoints rec.machine.place ≡ false
  pub unspent : is_spent rec.remaining ≡ false
  pub needs : one_step rec.image rec.machine ≡ Needs need
