-- The walk through what an event does: an instruction that is done is the next one of its procedure, which runs; an image is
-- loaded by the world's profile; and a start has at most 256 octets of arguments.
use Rattle.std.proofs.Common.{◌≡◌, ℕ, Bool, true, false, List, [], ◌∷◌, length, Option, Some, None, refl, sym, ap, ◌∙◌}
use Rattle.std.specs.Prelude.{Result, Ok, Err, IfOk, nat_lt}
use Rattle.std.specs.FinMap.{get}
use Rattle.ocp_profile.specs.declared.profile.Profile.{Profile}
use Rattle.pus_fields.specs.declared.fault.TcFault.{TcFault}
use Rattle.pus_fields.specs.declared.fault.TcFault.TheVariants.{Discarded, Rejected}
use Rattle.pus_fields.specs.Telecommand.{Telecommand}
use Rattle.pus_fields.specs.TelecommandFaults.{telecommand_of}
use Rattle.obcp_types.specs.declared.failure.RequestFault.{RequestFault}
use Rattle.obcp_types.specs.declared.pending.Due.{Due}
use Rattle.obcp_types.specs.declared.status.Status.TheVariants.{Running}
use Rattle.obcp_messages.specs.declared.request.Request.{Request as Command}
use Rattle.obcp_messages.specs.declared.request.Request.TheVariants as command
use Rattle.ocp_table.specs.declared.answers.InstructionOutcome.{InstructionOutcome}
use Rattle.ocp_table.specs.Records.{Rec, Records}
use Rattle.ocp_table.specs.Effects.{Effect, Loaded, Changed, Change, Started, Stepped}
use Rattle.ocp_table.specs.RequestTable.{Directive, Load, Activate, Step}
use Rattle.ocp_table.specs.RequestTable as directive
use Rattle.ocp_table.specs.Deciding.{effect_in, outcome_in, is_full}
use Rattle.ocp_table.proofs.Each.{Holds, each}
use Rattle.ocp_debug.specs.declared.command.Command.TheVariants.{SetBreak, ClearBreak, SetTrace}
use Rattle.ocp_debug.specs.declared.command.Command as debug
use Rattle.ocp_debug.specs.declared.command.DebugFault.{DebugFault}
use Rattle.ocp_debug.specs.Commands as commands
use Rattle.ocp_reports.specs.declared.origin.Origin.{Origin}
use Rattle.ocp_reports.specs.Origin.{origin_of}
use Rattle.ocp_world.specs.World as world
use Rattle.ocp_world.specs.World.{World, Event}
use Rattle.ocp_world.specs.Requests.{command_effect, command_of, service_effect, request_effect, next_origin, has_no_place}
use Rattle.ocp_world.specs.Drains.{drain_effect}
use Rattle.ocp_world.specs.Puts.{put_effect_if}
use Rattle.ocp_world.specs.After.{effect_of}
use Rattle.ocp_core.proofs.Arguments.{AreFew, HasThose, ReadsThose, few}

-- an instruction that is done is that of the record, on this pool
pub record IsNext (o : Option Rec) (pool : List ℕ) (outcome : InstructionOutcome) : Type 0 where
  pub rec : Rec
  pub is : o ≡ Some rec
  pub runs : rec.control.status ≡ Running
  pub next : outcome_in rec pool ≡ Some outcome

-- ... and the arguments of a start are fit
module _ (Fit : List ℕ → Type 0) where
  abbrev pub IsHonestChangeBy : Option Rec → List ℕ → Change → Type 0
  IsHonestChangeBy o pool (Stepped outcome) = IsNext o pool outcome
  IsHonestChangeBy o pool (Started budget arguments) = Fit arguments
  IsHonestChangeBy o pool change = Unit {0}

  abbrev pub IsHonestBy : Profile → Records → List ℕ → Effect → Type 0
  IsHonestBy profile m pool (Loaded by id image) = by ≡ profile
  IsHonestBy profile m pool (Changed id change) = IsHonestChangeBy (get m id) pool change
  IsHonestBy profile m pool effect = Unit {0}

  abbrev IsOn : Profile → List ℕ → Directive → Type 0
  IsOn profile pool (Load by image) = by ≡ profile
  IsOn profile pool (Step words) = words ≡ pool
  IsOn profile pool (Activate budget arguments) = Fit arguments
  IsOn profile pool directive = Unit {0}

  -- those of an event are, if it is an activation
  abbrev pub Fits : World → Event → Type 0
  Fits w (world.Request by time octets) = IfOk (telecommand_of w.apid octets) (λ tc. ReadsThose Fit (command_of w.profile tc))
  Fits w e = Unit {0}

-- ---- directives

module _ (Fit : List ℕ → Type 0) (profile : Profile) (m : Records) (pool : List ℕ) where
  abbrev Honestly : Directive → Effect → Type 0
  Honestly d effect = IsOn Fit profile pool d → IsHonestBy Fit profile m pool effect

  honestly : (id : ℕ) → Holds Honestly id (get m id) (is_full m)
  honestly id = record {
    failed = λ d failure on. tt;
    loaded = λ by image is room on. on;
    unloaded = λ r is status on. tt;
    started = λ budget arguments r is status on. on;
    sends = λ words r is fits on. tt;
    stop_pends = λ s from r is status on. tt;
    suspend_pends = λ s from r is status on. tt;
    stopped = λ s from full r is status on. tt;
    aborted = λ r is on. tt;
    resumed = λ r is status on. tt;
    stepped = λ words outcome r is status next on. record { rec = r; is = is; runs = status; next = ap (outcome_in r) (sym on) ∙ next };
  }

  pub honest_in : (d : Directive) (id : ℕ) → IsOn Fit profile pool d → IsHonestBy Fit profile m pool (effect_in d id m)
  honest_in d id on = each Honestly id (get m id) (is_full m) (honestly id) d on

-- ---- events

module _ (Fit : List ℕ → Type 0) (w : World) where
  abbrev Here : Effect → Type 0
  Here effect = IsHonestBy Fit w.profile w.records w.pool effect

  by_directive : (d : Directive) (id : ℕ) → IsOn Fit w.profile w.pool d → Here (effect_in d id w.records)
  by_directive d id on = honest_in Fit w.profile w.records w.pool d id on

  honest_command : (request : Command) (origin : Origin) → HasThose Fit request → Here (command_effect request origin w).on_records
  honest_command (command.Load id code) origin fits = by_directive (Load w.profile code) id refl
  honest_command (command.Unload id) origin fits = by_directive directive.Unload id tt
  honest_command (command.Activate id budget arguments) origin fits = by_directive (Activate budget arguments) id fits
  honest_command (command.Stop id step) origin fits = by_directive (directive.Stop step (next_origin origin w) (has_no_place w)) id tt
  honest_command (command.Suspend id step) origin fits = by_directive (directive.Suspend step (next_origin origin w) (has_no_place w)) id tt
  honest_command (command.Resume id) origin fits = by_directive directive.Resume id tt
  honest_command (command.Communicate id words) origin fits = by_directive (directive.Communicate words) id tt
  honest_command command.Status origin fits = tt
  honest_command (command.Abort id) origin fits = by_directive directive.Abort id tt

  honest_service : (r : Result Command RequestFault) (origin : Origin) → ReadsThose Fit r → Here (service_effect r origin w).on_records
  honest_service (Ok request) origin fits = honest_command request origin fits
  honest_service (Err fault) origin fits = tt

  honest_request : (r : Result Telecommand TcFault) (time : ℕ) → IfOk r (λ tc. ReadsThose Fit (command_of w.profile tc)) → Here (request_effect r time w).on_records
  honest_request (Ok tc) time fits = honest_service (command_of w.profile tc) (origin_of tc time) fits
  honest_request (Err (Rejected rejection request)) time fits = tt
  honest_request (Err (Discarded cause)) time fits = tt

  honest_set : (c : debug.Command) (id : ℕ) (o : Option DebugFault) → Here (commands.effect_by o c id)
  honest_set (SetBreak place) id None = tt
  honest_set (ClearBreak place) id None = tt
  honest_set (SetTrace on) id None = tt
  honest_set c id (Some fault) = tt

  honest_drain : (time : ℕ) (due : List Due) → Here (drain_effect time due).on_records
  honest_drain time [] = tt
  honest_drain time (d ∷ ds) = tt

  honest_put : (there : Bool) (index value : ℕ) → Here (put_effect_if there index value).on_records
  honest_put true index value = tt
  honest_put false index value = tt

  pub honest_event : (e : Event) → Fits Fit w e → Here (effect_of w e).on_records
  honest_event (world.Request by time octets) fits = honest_request (telecommand_of w.apid octets) time fits
  honest_event (world.Step by id) fits = by_directive (Step w.pool) id refl
  honest_event (world.Debug by id c) fits = honest_set c id (commands.fault_on c (get w.records id))
  honest_event (world.Drain by time) fits = honest_drain time w.outbox
  honest_event (world.Put by index value) fits = honest_put (nat_lt index (length w.pool)) index value

-- ---- at most 256 arguments

abbrev pub IsHonestChange : Option Rec → List ℕ → Change → Type 0
IsHonestChange o pool change = IsHonestChangeBy AreFew o pool change

abbrev pub IsHonest : Profile → Records → List ℕ → Effect → Type 0
IsHonest profile m pool effect = IsHonestBy AreFew profile m pool effect

few_read : (profile : Profile) (r : Result Telecommand TcFault) → IfOk r (λ tc. ReadsThose AreFew (command_of profile tc))
few_read profile (Ok tc) = few profile tc
few_read profile (Err fault) = tt

few_fit : (w : World) (e : Event) → Fits AreFew w e
few_fit w (world.Request by time octets) = few_read w.profile (telecommand_of w.apid octets)
few_fit w e = tt

pub honest : (w : World) (e : Event) → IsHonest w.profile w.records w.pool (effect_of w e).on_records
honest w e = honest_event AreFew w e (few_fit w e)
