-- What an event makes pending has that event's number, its procedure is loaded, and a place was free for it; and the event
-- is accepted.
use Rattle.std.proofs.Common.{◌≡◌, ◌≤◌, ℕ, ◌+◌, List, [], ◌∷◌, length, Option, Some, None, Bool, true, false, cond, inl, inr, refl, sym, ap, ◌∙◌, arith}
use Rattle.std.specs.Prelude.{◌⊎◌, Result, Ok, Err, nat_lt}
use Rattle.std.specs.FinMap.{get}
use Rattle.pus_fields.specs.declared.fault.TcFault.{TcFault}
use Rattle.pus_fields.specs.declared.fault.TcFault.TheVariants.{Discarded, Rejected}
use Rattle.pus_fields.specs.Telecommand.{Telecommand}
use Rattle.pus_fields.specs.TelecommandFaults.{telecommand_of}
use Rattle.obcp_types.specs.declared.failure.RequestFault.{RequestFault}
use Rattle.obcp_types.specs.declared.pending.Due.{Due}
use Rattle.obcp_messages.specs.declared.report.Report.{Report}
use Rattle.obcp_messages.specs.declared.request.Request.{Request as Command}
use Rattle.ocp_table.specs.declared.control.Pending.{Pending}
use Rattle.ocp_table.specs.Records.{Rec, Records}
use Rattle.ocp_table.specs.Effects as table
use Rattle.ocp_table.specs.Effects.{Change, Pended, Changed, Drained, step_outcome}
use Rattle.ocp_table.specs.RequestTable.{Directive, Stop, Suspend, Step}
use Rattle.ocp_table.specs.Deciding.{effect_in}
use Rattle.ocp_table.proofs.Asked.{Asks, IsThere, IsAsked, asked}
use Rattle.ocp_debug.specs.declared.command.Command as debug
use Rattle.ocp_debug.specs.declared.command.Command.TheVariants.{SetBreak, ClearBreak, SetTrace}
use Rattle.ocp_debug.specs.declared.command.DebugFault.{DebugFault}
use Rattle.ocp_debug.specs.Commands as commands
use Rattle.ocp_reports.specs.declared.origin.Origin.{Origin}
use Rattle.ocp_reports.specs.Origin.{origin_of}
use Rattle.ocp_world.specs.World as world
use Rattle.ocp_world.specs.World.{World, Event}
use Rattle.ocp_world.specs.Effect.{Effect, Commands}
use Rattle.ocp_world.specs.Requests.{start_effect, command_effect, command_of, service_effect, request_effect, has_no_place}
use Rattle.ocp_world.specs.Instructions.{instruction_effect, debug_effect}
use Rattle.ocp_world.specs.Drains.{drain_effect}
use Rattle.ocp_world.specs.Puts.{put_effect_if}
use Rattle.ocp_world.specs.After.{effect_of, events_by, is_done}
use Rattle.ocp_world.proofs.Asked.{IsAskedIn, each_asked}
use Rattle.ocp_core.specs.Outbox.{number_in, pending_by}

abbrev pub IsNumberedChange : World → Option Rec → Change → Type 0
IsNumberedChange w o (Pended p) = (number_in p ≡ w.events ∷ []) × (IsThere o × (has_no_place w ≡ false))
IsNumberedChange w o change = Unit {0}

-- the outbox is not emptied
abbrev pub IsNumbered : World → table.Effect → Type 0
IsNumbered w (Changed id change) = IsNumberedChange w (get w.records id) change
IsNumbered w Drained = ⊥
IsNumbered w effect = Unit {0}

-- ---- directives

-- a stop or suspend of the world's next event
abbrev IsNext : World → Directive → Type 0
IsNext w (Stop s from full) = (from.event ≡ w.events) × (full ≡ has_no_place w)
IsNext w (Suspend s from full) = (from.event ≡ w.events) × (full ≡ has_no_place w)
IsNext w d = Unit {0}

module _ (w : World) where
  numbered_pending : (d : Directive) (p : Pending) → IsNext w d → Asks d p → (number_in p ≡ w.events ∷ []) × (has_no_place w ≡ false)
  numbered_pending (Stop s from full) p next asks = (ap number_in asks.0 ∙ ap (λ n. n ∷ []) next.0, sym next.1 ∙ asks.1)
  numbered_pending (Suspend s from full) p next asks = (ap number_in asks.0 ∙ ap (λ n. n ∷ []) next.0, sym next.1 ∙ asks.1)
  numbered_pending d p next asks = absurd asks

  numbered_effect : (d : Directive) (effect : table.Effect) → IsNext w d → IsAsked d w.records effect → IsNumbered w effect
  numbered_effect d (Changed id (Pended p)) next is = let found = numbered_pending d p next is.0 in (found.0, (is.1, found.1))
  numbered_effect d Drained next is = absurd is
  numbered_effect d effect next is = tt

  numbered_in : (d : Directive) (id : ℕ) → IsNext w d → IsNumbered w (effect_in d id w.records)
  numbered_in d id next = numbered_effect d (effect_in d id w.records) next (asked d id w.records)

  -- ---- requests, instructions and commands

  next_asked : (origin : Origin) (d : Directive) → IsAskedIn w origin d → IsNext w d
  next_asked origin (Stop s from full) is = (ap (λ f. f.event) is.0, is.1)
  next_asked origin (Suspend s from full) is = (ap (λ f. f.event) is.0, is.1)
  next_asked origin d is = tt

  numbered_command : (request : Command) (origin : Origin) → IsNumbered w (command_effect request origin w).on_records
  numbered_command request origin = each_asked w origin (λ effect. IsNumbered w effect.on_records) (λ d id is. numbered_in d id (next_asked origin d is)) tt request

  numbered_service : (r : Result Command RequestFault) (origin : Origin) → IsNumbered w (service_effect r origin w).on_records
  numbered_service (Ok request) origin = numbered_command request origin
  numbered_service (Err why) origin = tt

  pub numbered_request : (r : Result Telecommand TcFault) (time : ℕ) → IsNumbered w (request_effect r time w).on_records
  numbered_request (Ok tc) time = numbered_service (command_of w.profile tc) (origin_of tc time)
  numbered_request (Err (Rejected rejection request)) time = tt
  numbered_request (Err (Discarded cause)) time = tt

  pub numbered_step : (id : ℕ) → IsNumbered w (effect_in (Step w.pool) id w.records)
  numbered_step id = numbered_in (Step w.pool) id tt

  numbered_set : (c : debug.Command) (id : ℕ) (o : Option DebugFault) → IsNumbered w (commands.effect_by o c id)
  numbered_set (SetBreak place) id None = tt
  numbered_set (ClearBreak place) id None = tt
  numbered_set (SetTrace on) id None = tt
  numbered_set c id (Some fault) = tt

  pub numbered_debug : (c : debug.Command) (id : ℕ) → IsNumbered w (debug_effect c id w.records).on_records
  numbered_debug c id = numbered_set c id (commands.fault_on c (get w.records id))

  pub numbered_put : (there : Bool) (index value : ℕ) → IsNumbered w (put_effect_if there index value).on_records
  numbered_put true index value = tt
  numbered_put false index value = tt

-- ---- what becomes pending is counted

-- an event makes nothing pending, or its own number, and then is counted
abbrev pub Counts : ℕ → Effect → Type 0
Counts n effect = ((pending_by effect.on_records n ≡ []) × (n ≤ events_by effect.reply n)) ⊎ ((pending_by effect.on_records n ≡ n ∷ []) × (events_by effect.reply n ≡ n + 1))

module _ (n : ℕ) where
  counts_start : (origin : Origin) (answer : List Report) (effect : table.Effect) → Counts n (start_effect origin answer effect)
  counts_start origin answer (Changed id (Pended p)) = inr (refl, refl)
  counts_start origin answer effect = inl (refl, omega arith)

  counts_command : (w : World) (request : Command) (origin : Origin) → Counts n (command_effect request origin w)
  counts_command w request origin = each_asked w origin (Counts n) (λ d id is. counts_start origin [] (effect_in d id w.records)) (inl (refl, omega arith)) request

  counts_service : (w : World) (r : Result Command RequestFault) (origin : Origin) → Counts n (service_effect r origin w)
  counts_service w (Ok request) origin = counts_command w request origin
  counts_service w (Err why) origin = inl (refl, omega arith)

  counts_request : (w : World) (r : Result Telecommand TcFault) (time : ℕ) → Counts n (request_effect r time w)
  counts_request w (Ok tc) time = counts_service w (command_of w.profile tc) (origin_of tc time)
  counts_request w (Err (Rejected rejection request)) time = inl (refl, omega arith)
  counts_request w (Err (Discarded cause)) time = inl (refl, omega arith)

  no_fewer : (done : Bool) → n ≤ cond done (n + 1) n
  no_fewer true = omega arith
  no_fewer false = omega arith

  -- an instruction makes nothing pending
  counts_outcome : (m : Records) (pool : List ℕ) (effect : table.Effect) → IsAsked (Step pool) m effect → Counts n (instruction_effect effect)
  counts_outcome m pool (Changed id (Pended p)) is = absurd is.0
  counts_outcome m pool effect is = inl (refl, no_fewer (is_done (step_outcome effect)))

  counts_step : (m : Records) (pool : List ℕ) (id : ℕ) → Counts n (instruction_effect (effect_in (Step pool) id m))
  counts_step m pool id = counts_outcome m pool (effect_in (Step pool) id m) (asked (Step pool) id m)

  counts_set : (c : debug.Command) (id : ℕ) (o : Option DebugFault) → Counts n (record { on_records = commands.effect_by o c id; reply = Commands (commands.result_of o) })
  counts_set (SetBreak place) id None = inl (refl, omega arith)
  counts_set (ClearBreak place) id None = inl (refl, omega arith)
  counts_set (SetTrace on) id None = inl (refl, omega arith)
  counts_set c id (Some fault) = inl (refl, omega arith)

  counts_drain : (time : ℕ) (dues : List Due) → Counts n (drain_effect time dues)
  counts_drain time [] = inl (refl, omega arith)
  counts_drain time (due ∷ dues) = inl (refl, omega arith)

  counts_put : (there : Bool) (index value : ℕ) → Counts n (put_effect_if there index value)
  counts_put true index value = inl (refl, omega arith)
  counts_put false index value = inl (refl, omega arith)

pub counts : (w : World) (e : Event) → Counts w.events (effect_of w e)
counts w (world.Request by time octets) = counts_request w.events w (telecommand_of w.apid octets) time
counts w (world.Step by id) = counts_step w.events w.records w.pool id
counts w (world.Debug by id c) = counts_set w.events c id (commands.fault_on c (get w.records id))
counts w (world.Drain by time) = counts_drain w.events time w.outbox
counts w (world.Put by index value) = counts_put w.events (nat_lt index (length w.pool)) index value
