-- An instruction event, as one of two forms: it is refused, or it makes something of its procedure.
use Rattle.std.proofs.Common.{◌≡◌, ℕ, List, Option, Some, None, Bool, refl, length}
use Rattle.std.specs.FinMap.{get}
use Rattle.obcp_types.specs.declared.failure.StartFailure.{StartFailure}
use Rattle.obcp_types.specs.declared.failure.StartFailure.TheVariants.{NotLoaded, NotRunning}
use Rattle.obcp_types.specs.declared.status.Status.{Status}
use Rattle.obcp_types.specs.declared.status.Status.TheVariants.{Inactive, Running, Held}
use Rattle.ocp_table.specs.declared.answers.InstructionOutcome.{InstructionOutcome}
use Rattle.ocp_table.specs.Records.{Rec}
use Rattle.ocp_table.specs.Effects as table
use Rattle.ocp_table.specs.Effects.{Changed, Kept, Stepped, Failed}
use Rattle.ocp_table.specs.RequestTable as directive
use Rattle.ocp_table.specs.RequestTable.{transition}
use Rattle.ocp_table.specs.Deciding.{outcome_in, effect_in, effect_by, effect_on, effect_of_step, is_full}
use Rattle.ocp_world.specs.World.{World}

pub data Turn : Type 0 where
  Refuses : StartFailure → Turn
  Makes : InstructionOutcome → Turn

abbrev pub by_turn : ℕ → Turn → table.Effect
by_turn id (Refuses failure) = Kept (Failed failure)
by_turn id (Makes outcome) = Changed id (Stepped outcome)

abbrev pub turn_of : Option InstructionOutcome → Turn
turn_of (Some outcome) = Makes outcome
turn_of None = Refuses NotRunning

abbrev pub turn_by : Status → Rec → List ℕ → Turn
turn_by Inactive r pool = Refuses NotRunning
turn_by Running r pool = turn_of (outcome_in r pool)
turn_by Held r pool = Refuses NotRunning

abbrev pub turn : Option Rec → List ℕ → Turn
turn None pool = Refuses NotLoaded
turn (Some r) pool = turn_by r.control.status r pool

effect_of_step-turn : (id : ℕ) (o : Option InstructionOutcome) → effect_of_step o id ≡ by_turn id (turn_of o)
effect_of_step-turn id (Some outcome) = refl
effect_of_step-turn id None = refl

effect_on-turn : (id : ℕ) (o : Option Rec) (pool : List ℕ) (full : Bool) → effect_on (directive.Step pool) id o full ≡ by_turn id (turn o pool)
effect_on-turn id None pool full = refl
effect_on-turn id (Some r) pool full = elim r.control.status as (λ s. effect_by (transition (directive.Step pool) (Some s) r.control.pending (length r.mailbox)) id (Some r) full ≡ by_turn id (turn_by s r pool)) [
  | Inactive ↦ refl
  | Running ↦ effect_of_step-turn id (outcome_in r pool)
  | Held ↦ refl
]

abbrev pub turn_in : World → ℕ → Turn
turn_in w id = turn (get w.records id) w.pool

pub effect-turn : (w : World) (id : ℕ) → effect_in (directive.Step w.pool) id w.records ≡ by_turn id (turn_in w id)
effect-turn w id = effect_on-turn id (get w.records id) w.pool (is_full w.records)
