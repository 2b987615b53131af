-- A request makes no trace record, and a load leaves the outbox.
use Rattle.std.proofs.Common.{◌≡◌, ℕ, Bool, List, length, Option, Some, None, refl, ap, ◌∙◌, [], ◌++◌}
use Rattle.std.specs.FinMap.{get}
use Rattle.std.proofs.lemmas.List.{append-nil}
use Rattle.ocp_profile.specs.declared.profile.Profile.{Profile}
use Rattle.obcp_types.specs.declared.pending.Due.{Due}
use Rattle.obcp_types.specs.declared.status.Status.TheVariants.{Inactive, Running, Held}
use Rattle.ocp_table.specs.Records.{Rec, Records}
use Rattle.ocp_table.specs.Effects.{Loaded, Changed, Stepped, outbox_by, failed_completion_of}
use Rattle.ocp_table.specs.Effects as table
use Rattle.ocp_table.specs.RequestTable.{Directive, Load, transition}
use Rattle.ocp_table.specs.Deciding.{effect_in, effect_by, decision_on, is_full}
use Rattle.ocp_table.specs.Laws.{IsRequest}
use Rattle.ocp_debug.specs.declared.trace.Trace.{Trace}
use Rattle.ocp_debug.specs.Traces.{traces_by}
use Rattle.ocp_world.proofs.ByKind.{IsPlain, each_kind}

-- an effect that is no instruction
abbrev pub IsIdle : table.Effect → Type 0
IsIdle (Changed id (Stepped outcome)) = ⊥
IsIdle effect = Unit {0}

plain_idle : (effect : table.Effect) → IsPlain effect → IsIdle effect
plain_idle (Changed id (Stepped outcome)) plain = plain
plain_idle effect plain = tt

pub idle_in : (d : Directive) → IsRequest d → (id : ℕ) (m : Records) → IsIdle (effect_in d id m)
idle_in d h id m = each_kind (λ d effect. IsRequest d → IsIdle effect) id m (λ profile image room h. tt) (λ pool outcome r is status next h. h) (λ d effect plain h. plain_idle effect plain) d h

-- ---- the outbox

-- a procedure that is loaded was not there before
overtaken_by_load : (o : Option Rec) (profile : Profile) (id : ℕ) (image : List ℕ) (full : Bool) → effect_by (decision_on (Load profile image) o) id o full ≡ Loaded profile id image → failed_completion_of o ≡ []
overtaken_by_load None profile id image full loads = refl
overtaken_by_load (Some r) profile id image full loads = absurd (elim r.control.status as (λ s. effect_by (transition (Load profile image) (Some s) r.control.pending (length r.mailbox)) id (Some r) full ≡ Loaded profile id image → ⊥) [
  | Inactive ↦ λ h. cc
  | Running ↦ λ h. cc
  | Held ↦ λ h. cc
] loads)

pub load_keeps_outbox : (profile : Profile) (id : ℕ) (image : List ℕ) (m : Records) (outbox : List Due) → effect_in (Load profile image) id m ≡ Loaded profile id image → outbox_by (effect_in (Load profile image) id m) m outbox ≡ outbox
load_keeps_outbox profile id image m outbox loads =
    ap (λ e. outbox_by e m outbox) loads
    ∙ ap (λ dues. outbox ++ dues) (overtaken_by_load (get m id) profile id image (is_full m) loads) ∙ append-nil outbox

-- ---- the trace records

traces_by_idle : (effect : table.Effect) → IsIdle effect → (m : Records) → traces_by effect m ≡ []
traces_by_idle (Changed id (Stepped outcome)) h m = absurd h
traces_by_idle effect h m = refl

pub request_makes_no_trace : (d : Directive) → IsRequest d → (id : ℕ) (m : Records) → traces_by (effect_in d id m) m ≡ []
request_makes_no_trace d h id m = traces_by_idle (effect_in d id m) (idle_in d h id m) m

-- the trace records and no further one
pub no_more : (traces more : List Trace) → more ≡ [] → traces ++ more ≡ traces
no_more traces more none = ap (λ ts. traces ++ ts) none ∙ append-nil traces
