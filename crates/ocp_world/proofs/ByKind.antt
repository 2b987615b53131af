-- What holds of the effect of every directive, by its kind: an image is loaded, an instruction is done, or neither.
use Rattle.std.proofs.Common.{◌≡◌, ℕ, false, List, Some}
use Rattle.std.specs.FinMap.{get}
use Rattle.obcp_types.specs.declared.status.Status.TheVariants.{Running}
use Rattle.ocp_profile.specs.declared.profile.Profile.{Profile}
use Rattle.ocp_table.specs.declared.answers.InstructionOutcome.{InstructionOutcome}
use Rattle.ocp_table.specs.declared.control.Cause.TheVariants.{Stopped, Aborted}
use Rattle.ocp_table.specs.declared.control.Pending.TheVariants as pending
use Rattle.ocp_table.specs.Records.{Rec, Records}
use Rattle.ocp_table.specs.Effects.{Effect, Loaded, Unloaded, Changed, Kept, Started, Sent, Pended, Quit, Resumed, Stepped, Failed}
use Rattle.ocp_table.specs.RequestTable.{Directive, Load, Unload, Activate, Stop, Suspend, Resume, Abort, Communicate, Step}
use Rattle.ocp_table.specs.Deciding.{effect_in, outcome_in, is_full}
use Rattle.ocp_table.proofs.Each.{Holds, each}

-- neither of the two
abbrev pub IsPlain : Effect → Type 0
IsPlain (Loaded profile id image) = ⊥
IsPlain (Changed id (Stepped outcome)) = ⊥
IsPlain effect = Unit {0}

module _ (P : Directive → Effect → Type 0) (id : ℕ) (m : Records)
    (loaded : (profile : Profile) (image : List ℕ) → is_full m ≡ false → P (Load profile image) (Loaded profile id image))
    (stepped : (pool : List ℕ) (outcome : InstructionOutcome) (r : Rec) → get m id ≡ Some r → r.control.status ≡ Running → outcome_in r pool ≡ Some outcome → P (Step pool) (Changed id (Stepped outcome)))
    (plain : (d : Directive) (effect : Effect) → IsPlain effect → P d effect) where
  holds : Holds P id (get m id) (is_full m)
  holds = record {
    failed = λ d failure. plain d (Kept (Failed failure)) tt;
    loaded = λ profile image is room. loaded profile image room;
    unloaded = λ r is status. plain Unload (Unloaded id) tt;
    started = λ budget arguments r is status. plain (Activate budget arguments) (Changed id (Started budget arguments)) tt;
    sends = λ words r is fits. plain (Communicate words) (Changed id (Sent words)) tt;
    stop_pends = λ s from r is status. plain (Stop s from false) (Changed id (Pended (pending.Stop s from))) tt;
    suspend_pends = λ s from r is status. plain (Suspend s from false) (Changed id (Pended (pending.Suspend s from))) tt;
    stopped = λ s from full r is status. plain (Stop s from full) (Changed id (Quit Stopped)) tt;
    aborted = λ r is. plain Abort (Changed id (Quit Aborted)) tt;
    resumed = λ r is status. plain Resume (Changed id Resumed) tt;
    stepped = stepped;
  }

  pub each_kind : (d : Directive) → P d (effect_in d id m)
  each_kind d = each P id (get m id) (is_full m) holds d
