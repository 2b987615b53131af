-- What a request asks for: a load is by the world's profile, a stop or suspend has the origin of the world's next event, and
-- nothing is an instruction.
use Rattle.std.proofs.Common.{◌≡◌, ℕ, [], ◌∷◌, Option, Some, None, refl}
use Rattle.obcp_messages.specs.declared.request.Request.{Request as Command}
use Rattle.obcp_messages.specs.declared.request.Request.TheVariants as command
use Rattle.ocp_table.specs.Effects.{Kept, Unasked}
use Rattle.ocp_table.specs.RequestTable.{Directive, Load, Stop, Suspend, Step}
use Rattle.ocp_table.specs.Laws.{IsRequest}
use Rattle.ocp_reports.specs.declared.origin.Origin.{Origin}
use Rattle.ocp_world.specs.World.{World}
use Rattle.ocp_world.specs.Effect.{Effect}
use Rattle.ocp_world.specs.Requests.{start_effect, status_report, directive_effect, directive_by, effect_asked, command_effect, next_origin, has_no_place}

-- this origin's request may ask for it in this world
abbrev pub IsAskedIn : World → Origin → Directive → Type 0
IsAskedIn w origin (Load profile image) = profile ≡ w.profile
IsAskedIn w origin (Stop s from full) = (from ≡ next_origin origin w) × (full ≡ has_no_place w)
IsAskedIn w origin (Suspend s from full) = (from ≡ next_origin origin w) × (full ≡ has_no_place w)
IsAskedIn w origin (Step pool) = ⊥
IsAskedIn w origin d = Unit {0}

pub is_request : (w : World) (origin : Origin) (d : Directive) → IsAskedIn w origin d → IsRequest d
is_request w origin (Step pool) is = is
is_request w origin d is = tt

-- what holds of each effect that may be asked for, and of a status report, holds of the effect of every request
module _ (w : World) (origin : Origin) (P : Effect → Type 0) (asked : (d : Directive) (id : ℕ) → IsAskedIn w origin d → P (directive_effect origin d id w.records)) (reported : P (start_effect origin (status_report w.records ∷ []) (Kept Unasked))) where
  abbrev IsIn : Option (ℕ × Directive) → Type 0
  IsIn (Some found) = IsAskedIn w origin found.1
  IsIn None = Unit {0}

  asked_by : (request : Command) → IsIn (directive_by request w.profile (next_origin origin w) (has_no_place w))
  asked_by (command.Load id code) = refl
  asked_by (command.Stop id step) = (refl, refl)
  asked_by (command.Suspend id step) = (refl, refl)
  asked_by request = tt

  by_asked : (o : Option (ℕ × Directive)) → IsIn o → P (effect_asked o origin w.records)
  by_asked (Some found) is = asked found.1 found.0 is
  by_asked None is = reported

  pub each_asked : (request : Command) → P (command_effect request origin w)
  each_asked request = by_asked (directive_by request w.profile (next_origin origin w) (has_no_place w)) (asked_by request)
