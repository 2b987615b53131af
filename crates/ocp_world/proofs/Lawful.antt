-- Laws on worlds and events, lifted from those on records.
use Rattle.std.proofs.Common.{◌≡◌, ◌≢◌, ◌+◌, ℕ, Bool, true, false, cond, List, [], ◌∷◌, ◌++◌, Option, Some, None, inl, refl, sym, ap, ◌∙◌, arith}
use Rattle.std.specs.Prelude.{Result, Ok, Err, is_some, ◌==◌, ◌&&◌}
use Rattle.std.proofs.lemmas.Bool.Decides.{nat_tests}
use Rattle.std.proofs.lemmas.List.{append-nil, append_assoc}
use Rattle.std.specs.FinMap.{get}
use Rattle.pus_fields.specs.declared.fault.TcFault.{TcFault}
use Rattle.pus_fields.specs.declared.fault.TcFault.TheVariants.{Discarded, Rejected}
use Rattle.pus_fields.specs.Telecommand.{Telecommand}
use Rattle.pus_fields.specs.TelecommandFaults.{telecommand_of}
use Rattle.obcp_types.specs.declared.failure.RequestFault.{RequestFault}
use Rattle.obcp_types.specs.declared.status.Status.TheVariants.{Running}
use Rattle.obcp_messages.specs.declared.request.Request.{Request as Command}
use Rattle.obcp_messages.specs.declared.request.Request.TheVariants as command
use Rattle.ocp_table.specs.Records.{Rec, Records}
use Rattle.obcp_types.specs.declared.pending.Due.{Due}
use Rattle.ocp_table.specs.Effects.{Change, Changed, records_by, pool_by, outbox_by, dues_of, failure_of}
use Rattle.ocp_table.specs.RequestTable as directive
use Rattle.ocp_table.specs.RequestTable.{Directive}
use Rattle.ocp_table.specs.Deciding.{effect_in, status_of}
use Rattle.ocp_table.specs.Laws.{machine_of, Run, run_of, IsRequest, IsKeptOrStarted, IsDebugging, LeavesMachines}
use Rattle.ocp_debug.specs.declared.command.Command.{Command as DebugCommand}
use Rattle.ocp_debug.specs.declared.command.Command.TheVariants.{SetBreak, ClearBreak, SetTrace}
use Rattle.ocp_debug.specs.declared.command.DebugFault.{DebugFault}
use Rattle.ocp_debug.specs.Traces.{traces_by}
use Rattle.ocp_debug.specs.Commands.{change_of, effect_by as debug_effect_by, fault_on}
use Rattle.ocp_reports.specs.declared.origin.Origin.{Origin}
use Rattle.ocp_reports.specs.Origin.{origin_of}
use Rattle.ocp_world.specs.World.{World, Event, Request, Step, Debug, Drain, Put}
use Rattle.ocp_world.specs.Requests.{directive_by, effect_asked, command_effect, service_effect, request_effect, command_of, next_origin, has_no_place}
use Rattle.ocp_world.specs.Drains.{drain_effect}
use Rattle.ocp_world.specs.Effect.{Reply, Discards, Sends, Steps, Commands, Undue, Puts}
use Rattle.ocp_world.specs.After.{after, effect_of, answer_by, events_by, is_accepted}
use Rattle.ocp_world.specs.Replay.{replay_from}
use Rattle.ocp_world.specs.Laws.{is_start_of, is_start_in, is_start_by, may_change_machine, IsAppended}
use Rattle.ocp_world.specs.Slice.{is_running, is_running_status}
use Rattle.ocp_world.proofs.Refusals.{is_instruction, refused_step, refused_keeps}
use Rattle.ocp_world.proofs.Calm.{request_makes_no_trace, no_more}
use Rattle.ocp_world.proofs.Putting.{put_keeps_records}
use Rattle.ocp_world.proofs.Asked.{is_request, each_asked}

-- ---- only a running procedure steps

not_running : (o : Option Rec) → is_running o ≡ false → status_of o ≢ Some Running
not_running None h e = cc
not_running (Some r) h e =
    let same : r.control.status ≡ Running = cc in
    let on : true ≡ false = sym (ap is_running_status same) ∙ h in
    cc

module _ (only : (id : ℕ) (m : Records) (pool : List ℕ) → status_of (get m id) ≢ Some Running → is_some (failure_of (effect_in (directive.Step pool) id m)) ≡ true) where
  pub still_refused : (w : World) (by id : ℕ) → is_running (get w.records id) ≡ false → is_accepted (after w (Step by id)).answer ≡ false
  still_refused w by id h = refused_step (effect_in (directive.Step w.pool) id w.records) (is_instruction w.pool w.records id) (only id w.records w.pool (not_running (get w.records id) h))

  pub still : (w : World) (by id : ℕ) → is_running (get w.records id) ≡ false → (after w (Step by id)).world ≡ w
  still w by id h = refused_keeps w (Step by id) (still_refused w by id h)

-- ---- a request

module _ (w : World) (q : ℕ) where
  abbrev IsKept : Records → Type 0
  IsKept n = IsKeptOrStarted (machine_of (get w.records q)) (machine_of (get n q))

  module _ (asked : (d : Directive) (id : ℕ) → IsRequest d → IsKept (records_by (effect_in d id w.records) w.records)) where
    kept_by_command : (request : Command) (origin : Origin) → IsKept (records_by (command_effect request origin w).on_records w.records)
    kept_by_command request origin = each_asked w origin (λ effect. IsKept (records_by effect.on_records w.records)) (λ d id is. asked d id (is_request w origin d is)) (λ machine same. inl same) request

    kept_by_service : (r : Result Command RequestFault) (origin : Origin) → IsKept (records_by (service_effect r origin w).on_records w.records)
    kept_by_service (Ok request) origin = kept_by_command request origin
    kept_by_service (Err fault) origin = λ machine is. inl is

    kept_by_octets : (r : Result Telecommand TcFault) (time : ℕ) → IsKept (records_by (request_effect r time w).on_records w.records)
    kept_by_octets (Ok telecommand) time = kept_by_service (command_of w.profile telecommand) (origin_of telecommand time)
    kept_by_octets (Err (Rejected rejection request)) time = λ machine is. inl is
    kept_by_octets (Err (Discarded cause)) time = λ machine is. inl is

pub kept_or_started : ((d : Directive) (id q : ℕ) (m : Records) → IsRequest d → IsKeptOrStarted (machine_of (get m q)) (machine_of (get (records_by (effect_in d id m) m) q))) → (w : World) (by time : ℕ) (octets : List ℕ) (id : ℕ) → IsKeptOrStarted (machine_of (get w.records id)) (machine_of (get (after w (Request by time octets)).world.records id))
kept_or_started law w by time octets id = kept_by_octets w id (λ d i asked. law d i id w.records asked) (telecommand_of w.apid octets) time

-- ---- what a drain leaves

module _ (time : ℕ) (m : Records) (pool : List ℕ) where
  drained_records : (due : List Due) → records_by (drain_effect time due).on_records m ≡ m
  drained_records [] = refl
  drained_records (due ∷ dues) = refl

  drained_pool : (due : List Due) → pool_by (drain_effect time due).on_records pool ≡ pool
  drained_pool [] = refl
  drained_pool (due ∷ dues) = refl

  drained_outbox : (due : List Due) → outbox_by (drain_effect time due).on_records m due ≡ []
  drained_outbox [] = refl
  drained_outbox (due ∷ dues) = refl

  no_trace_by_drain : (due : List Due) → traces_by (drain_effect time due).on_records m ≡ []
  no_trace_by_drain [] = refl
  no_trace_by_drain (due ∷ dues) = refl

pub drain_empties_outbox : (w : World) (by time : ℕ) → (after w (Drain by time)).world.outbox ≡ []
drain_empties_outbox w by time = drained_outbox time w.records w.pool w.outbox

pub drain_keeps_records : (w : World) (by time : ℕ) → (after w (Drain by time)).world.records ≡ w.records
drain_keeps_records w by time = drained_records time w.records w.pool w.outbox

pub drain_keeps_pool : (w : World) (by time : ℕ) → (after w (Drain by time)).world.pool ≡ w.pool
drain_keeps_pool w by time = drained_pool time w.records w.pool w.outbox

pub drain_keeps_traces : (w : World) (by time : ℕ) → (after w (Drain by time)).world.traces ≡ w.traces
drain_keeps_traces w by time = no_more w.traces _ (no_trace_by_drain time w.records w.pool w.outbox)

-- ---- what changes machines

true_false : true ≡ false → ⊥
true_false e = cc

apart : (a b : ℕ) → (a == b) ≡ false → b ≢ a
apart a b h e = grind (arith, nat_tests, h, e)

debugging : (command : DebugCommand) → IsDebugging (change_of command)
debugging (SetBreak place) = tt
debugging (ClearBreak place) = tt
debugging (SetTrace on) = tt

-- a record with this run
rec_of : Option Run → Option Rec
rec_of None = None
rec_of (Some run) = Some (record { image = run.image; machine = run.machine; mailbox = run.mailbox; control = run.control; breakpoints = []; traced = false; remaining = run.remaining })

machine_of-run : (o : Option Rec) → machine_of o ≡ machine_of (rec_of (run_of o))
unfolding rec_of
machine_of-run None = refl
machine_of-run (Some r) = refl

module _ (debugs : (change : Change) (id q : ℕ) (m : Records) → IsDebugging change → run_of (get (records_by (Changed id change) m) q) ≡ run_of (get m q)) where
  pub run_kept : (fault : Option DebugFault) (command : DebugCommand) (own id : ℕ) (m : Records) → run_of (get (records_by (debug_effect_by fault command own) m) id) ≡ run_of (get m id)
  run_kept None command own id m = debugs (change_of command) own id m (debugging command)
  run_kept (Some fault) command own id m = refl

  machine_kept : (fault : Option DebugFault) (command : DebugCommand) (own id : ℕ) (m : Records) → machine_of (get (records_by (debug_effect_by fault command own) m) id) ≡ machine_of (get m id)
  machine_kept fault command own id m =
      machine_of-run (get (records_by (debug_effect_by fault command own) m) id) ∙ ap (λ o. machine_of (rec_of o)) (run_kept fault command own id m) ∙ sym (machine_of-run (get m id))

  module _ (others : (d : Directive) (id other : ℕ) (m : Records) → other ≢ id → get (records_by (effect_in d id m) m) other ≡ get m other) (leaves : (d : Directive) (id q : ℕ) (m : Records) → LeavesMachines d → machine_of (get (records_by (effect_in d id m) m) q) ≡ machine_of (get m q)) (only : (id : ℕ) (m : Records) (pool : List ℕ) → status_of (get m id) ≢ Some Running → is_some (failure_of (effect_in (directive.Step pool) id m)) ≡ true) where
    module _ (w : World) (id : ℕ) where
      abbrev Stays : Records → Type 0
      Stays n = machine_of (get n id) ≡ machine_of (get w.records id)

      other_stays : (d : Directive) (own : ℕ) → (own == id) ≡ false → Stays (records_by (effect_in d own w.records) w.records)
      other_stays d own h = ap machine_of (others d own id w.records (apart own id h))

      -- nothing is asked, or what leaves machines
      abbrev Leaves : Option (ℕ × Directive) → Type 0
      Leaves (Some found) = LeavesMachines found.1
      Leaves None = Unit {0}

      stays_asked : (o : Option (ℕ × Directive)) (origin : Origin) → Leaves o → Stays (records_by (effect_asked o origin w.records).on_records w.records)
      stays_asked (Some found) origin h = leaves found.1 found.0 id w.records h
      stays_asked None origin h = refl

      stays_by_command : (request : Command) (origin : Origin) → is_start_of id request ≡ false → Stays (records_by (command_effect request origin w).on_records w.records)
      stays_by_command (command.Load own code) origin h = other_stays (directive.Load w.profile code) own h
      stays_by_command (command.Unload own) origin h = other_stays directive.Unload own h
      stays_by_command (command.Activate own budget arguments) origin h = other_stays (directive.Activate budget arguments) own h
      stays_by_command request origin h = stays_asked (directive_by request w.profile (next_origin origin w) (has_no_place w)) origin tt

      stays_by_service : (r : Result Command RequestFault) (origin : Origin) → is_start_in id r ≡ false → Stays (records_by (service_effect r origin w).on_records w.records)
      stays_by_service (Ok request) origin h = stays_by_command request origin h
      stays_by_service (Err fault) origin h = refl

      stays_by_octets : (r : Result Telecommand TcFault) (time : ℕ) → is_start_by w.profile id r ≡ false → Stays (records_by (request_effect r time w).on_records w.records)
      stays_by_octets (Ok telecommand) time h = stays_by_service (command_of w.profile telecommand) (origin_of telecommand time) h
      stays_by_octets (Err (Rejected rejection request)) time h = refl
      stays_by_octets (Err (Discarded cause)) time h = refl

    stays_by_step : (w : World) (by own id : ℕ) (same : Bool) → (own == id) ≡ same → (same && is_running (get w.records own)) ≡ false → machine_of (get (after w (Step by own)).world.records id) ≡ machine_of (get w.records id)
    stays_by_step w by own id true is h = ap (λ v. machine_of (get v.records id)) (still only w by own h)
    stays_by_step w by own id false is h = other_stays w id (directive.Step w.pool) own is

    pub machines_stay : (w : World) (e : Event) (id : ℕ) → may_change_machine w e id ≡ false → machine_of (get (after w e).world.records id) ≡ machine_of (get w.records id)
    machines_stay w (Request by time octets) id h = stays_by_octets w id (telecommand_of w.apid octets) time h
    machines_stay w (Step by own) id h = stays_by_step w by own id (own == id) refl h
    machines_stay w (Debug by own command) id h = machine_kept (fault_on command (get w.records own)) command own id w.records
    machines_stay w (Drain by time) id h = ap (λ m. machine_of (get m id)) (drain_keeps_records w by time)
    machines_stay w (Put by index value) id h = ap (λ m. machine_of (get m id)) (put_keeps_records w by index value)

-- ---- what a debugger's command leaves

pool_kept : (fault : Option DebugFault) (command : DebugCommand) (own : ℕ) (pool : List ℕ) → pool_by (debug_effect_by fault command own) pool ≡ pool
pool_kept None (SetBreak place) own pool = refl
pool_kept None (ClearBreak place) own pool = refl
pool_kept None (SetTrace on) own pool = refl
pool_kept (Some fault) command own pool = refl

no_trace_by_command : (fault : Option DebugFault) (command : DebugCommand) (own : ℕ) (m : Records) → traces_by (debug_effect_by fault command own) m ≡ []
no_trace_by_command None (SetBreak place) own m = refl
no_trace_by_command None (ClearBreak place) own m = refl
no_trace_by_command None (SetTrace on) own m = refl
no_trace_by_command (Some fault) command own m = refl

pub command_keeps_pool : (w : World) (by own : ℕ) (command : DebugCommand) → (after w (Debug by own command)).world.pool ≡ w.pool
command_keeps_pool w by own command = pool_kept (fault_on command (get w.records own)) command own w.pool

-- a debugger files no completion
unfiled : (command : DebugCommand) (o : Option Rec) → dues_of (change_of command) o ≡ []
unfiled command None = refl
unfiled (SetBreak place) (Some r) = refl
unfiled (ClearBreak place) (Some r) = refl
unfiled (SetTrace on) (Some r) = refl

outbox_kept : (fault : Option DebugFault) (command : DebugCommand) (own : ℕ) (m : Records) (outbox : List Due) → outbox_by (debug_effect_by fault command own) m outbox ≡ outbox
outbox_kept None command own m outbox = ap (λ dues. outbox ++ dues) (unfiled command (get m own)) ∙ append-nil outbox
outbox_kept (Some fault) command own m outbox = append-nil outbox

pub command_keeps_outbox : (w : World) (by own : ℕ) (command : DebugCommand) → (after w (Debug by own command)).world.outbox ≡ w.outbox
command_keeps_outbox w by own command = outbox_kept (fault_on command (get w.records own)) command own w.records w.outbox

pub command_keeps_traces : (w : World) (by own : ℕ) (command : DebugCommand) → (after w (Debug by own command)).world.traces ≡ w.traces
command_keeps_traces w by own command = no_more w.traces _ (no_trace_by_command (fault_on command (get w.records own)) command own w.records)

-- ---- accepted events

counted_by : (reply : Reply) (w : World) → events_by reply w.events ≡ cond (is_accepted (answer_by reply w)) (w.events + 1) w.events
counted_by (Discards cause) w = refl
counted_by (Sends dispatches) w = refl
counted_by (Steps outcome) w = refl
counted_by (Commands (Ok done)) w = refl
counted_by (Commands (Err fault)) w = refl
counted_by Undue w = refl
counted_by (Puts (Ok done)) w = refl
counted_by (Puts (Err fault)) w = refl

pub counted : (w : World) (e : Event) → (after w e).world.events ≡ cond (is_accepted (after w e).answer) (w.events + 1) w.events
counted w e = counted_by (effect_of w e).reply w

-- ---- trace records

no_trace_by_request : (request : Command) (origin : Origin) (w : World) → traces_by (command_effect request origin w).on_records w.records ≡ []
no_trace_by_request request origin w = each_asked w origin (λ effect. traces_by effect.on_records w.records ≡ []) (λ d id is. request_makes_no_trace d (is_request w origin d is) id w.records) refl request

no_trace_by_service : (r : Result Command RequestFault) (origin : Origin) (w : World) → traces_by (service_effect r origin w).on_records w.records ≡ []
no_trace_by_service (Ok request) origin w = no_trace_by_request request origin w
no_trace_by_service (Err fault) origin w = refl

no_trace_by_octets : (r : Result Telecommand TcFault) (time : ℕ) (w : World) → traces_by (request_effect r time w).on_records w.records ≡ []
no_trace_by_octets (Ok telecommand) time w = no_trace_by_service (command_of w.profile telecommand) (origin_of telecommand time) w
no_trace_by_octets (Err (Rejected rejection request)) time w = refl
no_trace_by_octets (Err (Discarded cause)) time w = refl

pub request_keeps_traces : (w : World) (by time : ℕ) (octets : List ℕ) → (after w (Request by time octets)).world.traces ≡ w.traces
request_keeps_traces w by time octets = no_more w.traces _ (no_trace_by_octets (telecommand_of w.apid octets) time w)

-- trace records after events are those before and more
pub traces_appended : (w : World) (es : List Event) → IsAppended w.traces (replay_from w es).traces
traces_appended w [] = ([], sym (append-nil w.traces))
traces_appended w (e ∷ es) =
    let made = traces_by (effect_of w e).on_records w.records in
    let rest = traces_appended (after w e).world es in
    (made ++ rest.0, rest.1 ∙ append_assoc w.traces made rest.0)
