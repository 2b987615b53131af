-- A procedure's own events, and the image that it was loaded with.
use Rattle.std.specs.Prelude.{ℕ, ◌==◌, if◌then◌else◌, List, [], ◌∷◌, ◌++◌, Option, Some, None}
use Rattle.ocp_profile.specs.declared.profile.Profile.{Profile}
use Rattle.ocp_pool.specs.Call.{number_of, r0_of, r1_of}
use Rattle.ocp_table.specs.declared.answers.InstructionOutcome.{InstructionOutcome}
use Rattle.ocp_table.specs.declared.answers.InstructionOutcome.TheVariants.{Ran, Called}
use Rattle.ocp_table.specs.Effects.{Effect, Loaded, Unloaded, Changed, Change, Started, Stepped}
use Rattle.ocp_world.specs.World.{Event}
use Rattle.ocp_core.specs.History.{history, gather}

-- it was started with arguments, whatever its budget; it did an instruction that needs no engine;
-- or it made the engine call of this number, and was answered this in R0, and in R1 if the call
-- writes it
pub data Own : Type 0 where
  Start : List ℕ → Own
  Local : Own
  Call : ℕ → ℕ → Option ℕ → Own

-- a breakpoint, an end and a fault leave the machine, and are no events of its own
abbrev pub own_by_outcome : InstructionOutcome → List Own
own_by_outcome Ran = Local ∷ []
own_by_outcome (Called call) = Call (number_of call) (r0_of call) (r1_of call) ∷ []
own_by_outcome outcome = []

abbrev pub own_by_change : Change → List Own
own_by_change (Started budget arguments) = Start arguments ∷ []
own_by_change (Stepped outcome) = own_by_outcome outcome
own_by_change change = []

-- a load of the procedure starts a new list
abbrev pub add_own : ℕ → Effect → List Own → List Own
add_own id (Loaded profile other image) own = if id == other then [] else own
add_own id (Changed other change) own = if id == other then own ++ own_by_change change else own
add_own id effect own = own

-- the procedure's own events since its last load
abbrev pub own_events : Profile → ℕ → ℕ → List Event → ℕ → List Own
own_events profile apid words es id = gather (add_own id) [] (history profile apid words es)

abbrev pub add_image : ℕ → Effect → Option (List ℕ) → Option (List ℕ)
add_image id (Loaded profile other image) before = if id == other then Some image else before
add_image id (Unloaded other) before = if id == other then None else before
add_image id effect before = before

-- the image of its last load, if it was not unloaded since then
abbrev pub image_after : Profile → ℕ → ℕ → List Event → ℕ → Option (List ℕ)
image_after profile apid words es id = gather (add_image id) None (history profile apid words es)
