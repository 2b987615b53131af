-- The world after an event, and the answer (ECSS-E-ST-70-41C, 6.1 and 6.18).
use Rattle.std.specs.Prelude.{ℕ, ◌+◌, Bool, true, false, List, ◌++◌, length, Result, Ok, Err, if◌then◌else◌}
use Rattle.pus_fields.specs.TelecommandFaults.{telecommand_of}
use Rattle.ocp_table.specs.declared.answers.StepOutcome.{StepOutcome}
use Rattle.ocp_table.specs.RequestTable as directive
use Rattle.ocp_table.specs.Deciding.{effect_in}
use Rattle.ocp_table.specs.Effects.{records_by, outbox_by, pool_by}
use Rattle.ocp_table.specs.Slices as table
use Rattle.ocp_debug.specs.declared.command.DebugFault.{DebugFault}
use Rattle.ocp_debug.specs.Traces.{traces_by}
use Rattle.ocp_reports.specs.Packets.{packets}
use Rattle.ocp_world.specs.declared.answers.EngineFault.{EngineFault}
use Rattle.ocp_world.specs.declared.answers.EngineFault.TheVariants as engine
use Rattle.ocp_world.specs.declared.answers.PutFault.{PutFault}
use Rattle.ocp_world.specs.World.{World, Event, Request, Step, Debug, Drain, Put}
use Rattle.ocp_world.specs.Effect.{Effect, Reply, Discards, Sends, Steps, Commands, Undue, Puts}
use Rattle.ocp_world.specs.Requests.{request_effect}
use Rattle.ocp_world.specs.Instructions.{instruction_effect, debug_effect}
use Rattle.ocp_world.specs.Drains.{drain_effect}
use Rattle.ocp_world.specs.Puts.{put_effect}

-- what an event does in a world
abbrev pub effect_of : World → Event → Effect
effect_of w (Request by time octets) = request_effect (telecommand_of w.apid octets) time w
effect_of w (Step by id) = instruction_effect (effect_in (directive.Step w.pool) id w.records)
effect_of w (Debug by id command) = debug_effect command id w.records
effect_of w (Drain by time) = drain_effect time w.outbox
effect_of w (Put by index value) = put_effect index value w.pool

-- the reports of a request or of a drain, each a whole packet; the outcome of an instruction; the
-- result of a debugger's command; or that of a write of a pool word
pub data Answer : Type 0 where
  Requested : Result (List (List ℕ)) EngineFault → Answer
  Stepped : StepOutcome → Answer
  Commanded : Result (Unit {0}) DebugFault → Answer
  Written : Result (Unit {0}) PutFault → Answer

abbrev pub answer_by : Reply → World → Answer
answer_by (Discards cause) w = Requested (Err (engine.Discarded cause))
answer_by (Sends dispatches) w = Requested (Ok (packets w.apid w.reports dispatches))
answer_by (Steps outcome) w = Stepped outcome
answer_by (Commands result) w = Commanded result
answer_by Undue w = Requested (Err engine.NothingDue)
answer_by (Puts result) w = Written result

-- the reports so far
abbrev pub reports_by : Reply → ℕ → ℕ
reports_by (Discards cause) n = n
reports_by (Sends dispatches) n = n + length dispatches
reports_by (Steps outcome) n = n
reports_by (Commands result) n = n
reports_by Undue n = n
reports_by (Puts result) n = n

-- whether an instruction is done
abbrev pub is_done : StepOutcome → Bool
is_done outcome = table.is_done outcome

-- the accepted events so far
abbrev pub events_by : Reply → ℕ → ℕ
events_by (Discards cause) n = n
events_by (Sends dispatches) n = n + 1
events_by (Steps outcome) n = if is_done outcome then n + 1 else n
events_by (Commands (Ok done)) n = n + 1
events_by (Commands (Err fault)) n = n
events_by Undue n = n
events_by (Puts (Ok done)) n = n + 1
events_by (Puts (Err fault)) n = n

abbrev pub world_after : Effect → World → World
world_after effect w = record w {
  records = records_by effect.on_records w.records;
  outbox = outbox_by effect.on_records w.records w.outbox;
  pool = pool_by effect.on_records w.pool;
  events = events_by effect.reply w.events;
  reports = reports_by effect.reply w.reports;
  traces = w.traces ++ traces_by effect.on_records w.records;
}

pub record After : Type 0 where
  pub world : World
  pub answer : Answer

abbrev pub after : World → Event → After
after w e = record {
  world = world_after (effect_of w e) w;
  answer = answer_by (effect_of w e).reply w;
}

-- whether the answer is that of an accepted event: a refused one leaves the world as it was
abbrev pub is_accepted : Answer → Bool
is_accepted (Requested (Ok reports)) = true
is_accepted (Requested (Err fault)) = false
is_accepted (Stepped outcome) = is_done outcome
is_accepted (Commanded (Ok done)) = true
is_accepted (Commanded (Err fault)) = false
is_accepted (Written (Ok done)) = true
is_accepted (Written (Err fault)) = false
