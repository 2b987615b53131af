-- What holds of every event's effect on the records, and of every world that events lead to.
use Rattle.std.proofs.Common.{◌≡◌, ℕ, Bool, true, false, List, [], ◌∷◌, length, Option, Some, None, refl}
use Rattle.std.specs.Prelude.{Result, Ok, Err, nat_le, nat_lt}
use Rattle.std.specs.FinMap.{get}
use Rattle.pus_fields.specs.declared.fault.TcFault.{TcFault}
use Rattle.pus_fields.specs.declared.fault.TcFault.TheVariants.{Discarded, Rejected}
use Rattle.pus_fields.specs.Telecommand.{Telecommand}
use Rattle.pus_fields.specs.TelecommandFaults.{telecommand_of}
use Rattle.obcp_types.specs.declared.failure.RequestFault.{RequestFault}
use Rattle.obcp_types.specs.declared.pending.Due.{Due}
use Rattle.obcp_messages.specs.declared.request.Request.{Request as Command}
use Rattle.ocp_table.specs.Effects.{Effect, Changed, Drained, WordPut, Kept, Unasked}
use Rattle.ocp_table.specs.RequestTable.{Directive, Step}
use Rattle.ocp_table.specs.Deciding.{effect_in}
use Rattle.ocp_debug.specs.declared.command.Command as debug
use Rattle.ocp_debug.specs.declared.command.DebugFault.{DebugFault}
use Rattle.ocp_debug.specs.Commands as commands
use Rattle.ocp_reports.specs.declared.origin.Origin.{Origin}
use Rattle.ocp_reports.specs.Origin.{origin_of}
use Rattle.ocp_world.specs.World as world
use Rattle.ocp_world.specs.World.{World, Event}
use Rattle.ocp_world.specs.Puts.{put_effect_if}
use Rattle.ocp_world.specs.Requests.{command_effect, command_of, service_effect, request_effect}
use Rattle.ocp_world.specs.Drains.{drain_effect}
use Rattle.ocp_world.specs.After.{effect_of, after}
use Rattle.ocp_world.specs.Replay.{replay_from}
use Rattle.ocp_world.proofs.Asked.{IsAskedIn, each_asked}

-- the identifier of a request has at most four octets
abbrev pub IsFour : Origin → Type 0
IsFour origin = nat_le (length origin.request) 4 ≡ true

-- what holds of what each request asks for, of each instruction, of each debugger's command, of each
-- word that is put, of a drain, and of what changes nothing, holds of every event
module _ (w : World) (P : Effect → Type 0)
    (asked : (origin : Origin) → IsFour origin → (d : Directive) (id : ℕ) → IsAskedIn w origin d → P (effect_in d id w.records))
    (step : (id : ℕ) → P (effect_in (Step w.pool) id w.records))
    (set : (c : debug.Command) (id : ℕ) → P (Changed id (commands.change_of c)))
    (put : (index value : ℕ) → P (WordPut index value))
    (drained : P Drained) (unasked : P (Kept Unasked)) where
  by_command : (request : Command) (origin : Origin) → IsFour origin → P (command_effect request origin w).on_records
  by_command request origin four = each_asked w origin (λ effect. P effect.on_records) (asked origin four) unasked request

  by_service : (r : Result Command RequestFault) (origin : Origin) → IsFour origin → P (service_effect r origin w).on_records
  by_service (Ok request) origin four = by_command request origin four
  by_service (Err why) origin four = unasked

  by_request : (r : Result Telecommand TcFault) (time : ℕ) → P (request_effect r time w).on_records
  by_request (Ok tc) time = by_service (command_of w.profile tc) (origin_of tc time) refl
  by_request (Err (Rejected rejection request)) time = unasked
  by_request (Err (Discarded cause)) time = unasked

  by_fault : (o : Option DebugFault) (c : debug.Command) (id : ℕ) → P (commands.effect_by o c id)
  by_fault None c id = set c id
  by_fault (Some fault) c id = unasked

  by_dues : (time : ℕ) (dues : List Due) → P (drain_effect time dues).on_records
  by_dues time [] = unasked
  by_dues time (d ∷ ds) = drained

  by_index : (there : Bool) (index value : ℕ) → P (put_effect_if there index value).on_records
  by_index true index value = put index value
  by_index false index value = unasked

  pub each_event : (e : Event) → P (effect_of w e).on_records
  each_event (world.Request by time octets) = by_request (telecommand_of w.apid octets) time
  each_event (world.Step by id) = step id
  each_event (world.Debug by id c) = by_fault (commands.fault_on c (get w.records id)) c id
  each_event (world.Drain by time) = by_dues time w.outbox
  each_event (world.Put by index value) = by_index (nat_lt index (length w.pool)) index value

-- what each event keeps holds after every list of events
pub along : (P : World → Type 0) → ((w : World) (e : Event) → P w → P (after w e).world) → (w : World) (es : List Event) → P w → P (replay_from w es)
along P step w [] p = p
along P step w (e ∷ es) p = along P step (after w e).world es (step w e p)
