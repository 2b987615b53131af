-- The budget that a procedure was last activated with, and how many of its instructions were done
-- since then.
use Rattle.std.specs.Prelude.{◌≡◌, ◌≤◌, ◌↔◌, ℕ, ◌+◌, ◌==◌, ◌&&◌, Bool, true, false, if◌then◌else◌, List, Option, Some}
use Rattle.std.specs.FinMap.{get}
use Rattle.ocp_profile.specs.declared.profile.Profile.{Profile}
use Rattle.obcp_types.specs.declared.status.Status.TheVariants.{Running}
use Rattle.bpf_step.specs.Runs.{breaks_at}
use Rattle.ocp_table.specs.declared.answers.InstructionOutcome.TheVariants.{Faulted}
use Rattle.ocp_table.specs.declared.answers.StepOutcome.TheVariants as outcome
use Rattle.ocp_table.specs.declared.fault.ProcedureFault.TheVariants.{BudgetSpent}
use Rattle.ocp_table.specs.Budgets.{budget_of, less, is_spent}
use Rattle.ocp_table.specs.Records.{Rec}
use Rattle.ocp_table.specs.Effects.{Effect, Loaded, Unloaded, Changed, Started}
use Rattle.ocp_world.specs.World.{World, Event, Step, opening}
use Rattle.ocp_world.specs.After.{Answer, Stepped, effect_of, after}
use Rattle.ocp_world.specs.Replay.{replay}
use Rattle.ocp_core.specs.History.{gather_along, Does}

-- ---- the budget that was given

-- the budget of the last activation that was done, 0 if it had none; a load and an unload leave
-- none
abbrev pub given_budget_by : ℕ → Effect → ℕ → ℕ
given_budget_by id (Loaded profile other image) given = if id == other then 0 else given
given_budget_by id (Unloaded other) given = if id == other then 0 else given
given_budget_by id (Changed other (Started budget arguments)) given =
    if id == other then budget else given
given_budget_by id effect given = given

abbrev pub given_budget : Profile → ℕ → ℕ → List Event → ℕ → ℕ
given_budget profile apid words es id =
    gather_along (λ w e. given_budget_by id (effect_of w e).on_records) 0
    (opening profile apid words) es

-- ---- the instructions that were done since then

-- the procedure is loaded, unloaded or activated
abbrev pub begins_anew : ℕ → Effect → Bool
begins_anew id (Loaded profile other image) = id == other
begins_anew id (Unloaded other) = id == other
begins_anew id (Changed other (Started budget arguments)) = id == other
begins_anew id effect = false

-- the answer is that an instruction was done: it ran, it was an engine call that was answered, or
-- it was the last exit
abbrev pub is_use : Answer → Bool
is_use (Stepped outcome.Ran) = true
is_use (Stepped outcome.Called) = true
is_use (Stepped outcome.Ended) = true
is_use answer = false

-- an instruction event of the procedure that has such an answer
abbrev pub uses : ℕ → World → Event → Bool
uses id w (Step by other) = (id == other) && is_use (after w (Step by other)).answer
uses id w event = false

abbrev pub use_count_by : ℕ → World → Event → ℕ → ℕ
use_count_by id w e used =
    if begins_anew id (effect_of w e).on_records then 0
    else if uses id w e then used + 1 else used

-- how many events of the procedure had such an answer since its last activation
abbrev pub use_count : Profile → ℕ → ℕ → List Event → ℕ → ℕ
use_count profile apid words es id =
    gather_along (use_count_by id) 0 (opening profile apid words) es

-- ---- the laws

-- with a budget n > 0 they are at most n: after every list of events, and so at each point between
-- an activation and the next one, or the unload
abbrev pub IsWithinBudget : Type 0
IsWithinBudget =
    (profile : Profile) (apid words : ℕ) (es : List Event) (id : ℕ) →
    1 ≤ given_budget profile apid words es id →
    use_count profile apid words es id ≤ given_budget profile apid words es id

-- what remains to a procedure is what it was given less what it used, and without a budget none
abbrev pub RemainsAreCounted : Type 0
RemainsAreCounted =
    (profile : Profile) (apid words : ℕ) (es : List Event) (id : ℕ) (r : Rec) →
    get (replay profile apid words es).records id ≡ Some r →
    r.remaining ≡
    less (use_count profile apid words es id) (budget_of (given_budget profile apid words es id))

-- the next instruction of a procedure finds its budget spent: it runs, and no breakpoint holds it
pub record FindsNothing (o : Option Rec) : Type 0 where
  pub rec : Rec
  pub is : o ≡ Some rec
  pub runs : rec.control.status ≡ Running
  pub passes : breaks_at rec.control.pass rec.breakpoints rec.machine.place ≡ false
  pub spent : is_spent rec.remaining ≡ true

-- the law: BudgetSpent is the fault of a spent budget, and of nothing else
abbrev pub FaultsSpent : Type 0
FaultsSpent =
    (profile : Profile) (apid words : ℕ) (es : List Event) (by id : ℕ) →
    let w = replay profile apid words es in
    Does w by id (Faulted BudgetSpent) ↔ FindsNothing (get w.records id)
