-- No event but an instruction event does an instruction.
use Rattle.std.proofs.Common.{ℕ, Bool, true, false, List, [], ◌∷◌, Option, Some, None}
use Rattle.std.specs.Prelude.{Result, Ok, Err}
use Rattle.std.specs.FinMap.{get}
use Rattle.pus_fields.specs.declared.fault.TcFault.{TcFault}
use Rattle.pus_fields.specs.declared.fault.TcFault.TheVariants.{Discarded, Rejected}
use Rattle.pus_fields.specs.Telecommand.{Telecommand}
use Rattle.obcp_types.specs.declared.failure.RequestFault.{RequestFault}
use Rattle.obcp_types.specs.declared.pending.Due.{Due}
use Rattle.obcp_messages.specs.declared.request.Request.{Request as Command}
use Rattle.ocp_debug.specs.declared.command.Command as debug
use Rattle.ocp_debug.specs.declared.command.Command.TheVariants.{SetBreak, ClearBreak, SetTrace}
use Rattle.ocp_debug.specs.declared.command.DebugFault.{DebugFault}
use Rattle.ocp_debug.specs.Commands as commands
use Rattle.ocp_reports.specs.declared.origin.Origin.{Origin}
use Rattle.ocp_reports.specs.Origin.{origin_of}
use Rattle.ocp_world.specs.World.{World}
use Rattle.ocp_world.specs.Requests.{command_effect, command_of, service_effect, request_effect}
use Rattle.ocp_world.specs.Instructions.{debug_effect}
use Rattle.ocp_world.specs.Drains.{drain_effect}
use Rattle.ocp_world.specs.Puts.{put_effect_if}
use Rattle.ocp_world.proofs.Asked.{is_request, each_asked}
use Rattle.ocp_world.proofs.Calm.{IsIdle, idle_in}

module _ (w : World) where
  idle_command : (request : Command) (origin : Origin) → IsIdle (command_effect request origin w).on_records
  idle_command request origin = each_asked w origin (λ effect. IsIdle effect.on_records) (λ d id is. idle_in d (is_request w origin d is) id w.records) tt request

  idle_service : (r : Result Command RequestFault) (origin : Origin) → IsIdle (service_effect r origin w).on_records
  idle_service (Ok request) origin = idle_command request origin
  idle_service (Err why) origin = tt

  pub idle_request : (r : Result Telecommand TcFault) (time : ℕ) → IsIdle (request_effect r time w).on_records
  idle_request (Ok tc) time = idle_service (command_of w.profile tc) (origin_of tc time)
  idle_request (Err (Rejected rejection request)) time = tt
  idle_request (Err (Discarded cause)) time = tt

  idle_set : (c : debug.Command) (id : ℕ) (o : Option DebugFault) → IsIdle (commands.effect_by o c id)
  idle_set (SetBreak place) id None = tt
  idle_set (ClearBreak place) id None = tt
  idle_set (SetTrace on) id None = tt
  idle_set c id (Some fault) = tt

  pub idle_debug : (c : debug.Command) (id : ℕ) → IsIdle (debug_effect c id w.records).on_records
  idle_debug c id = idle_set c id (commands.fault_on c (get w.records id))

pub idle_drain : (time : ℕ) (dues : List Due) → IsIdle (drain_effect time dues).on_records
idle_drain time [] = tt
idle_drain time (d ∷ ds) = tt

pub idle_put : (there : Bool) (index value : ℕ) → IsIdle (put_effect_if there index value).on_records
idle_put true index value = tt
idle_put false index value = tt
