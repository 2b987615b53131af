-- What a line does, and what it prints.
use Rattle.std.specs.Prelude.{ℕ, ◌+◌, ◌%◌, List, [], length, Option, Some, None, Result, Ok, Err, slice_get}
use Rattle.std.specs.List.{flat_map}
use Rattle.std.specs.FinMap.{get}
use Rattle.ocp_profile.specs.declared.profile.Profile.{Profile}
use Rattle.space_packet.specs.declared.range.TheConstants.{SEQUENCE_COUNTS}
use Rattle.pus_fields.specs.Acknowledgement.{flags}
use Rattle.pus_fields.specs.Telecommand.{telecommand_octets}
use Rattle.obcp_messages.specs.declared.request.Request.{Request}
use Rattle.obcp_messages.specs.Request.{subtype_of, request_data}
use Rattle.ocp_table.specs.Shown.{view_at}
use Rattle.ocp_debug.specs.declared.command.Command.{Command}
use Rattle.ocp_debug.specs.declared.command.Command.TheVariants.{SetBreak, ClearBreak, SetTrace}
use Rattle.ocp_debug.specs.declared.command.DebugFault.{DebugFault}
use Rattle.ocp_debug.specs.Memory.{memory_at}
use Rattle.ocp_debug.specs.Traces.{last_traces}
use Rattle.ocp_debug.specs.Texts.{view_lines, trace_line}
use Rattle.ocp_world.specs.declared.answers.EngineFault.TheVariants as fault
use Rattle.ocp_world.specs.declared.answers.PutFault.{PutFault}
use Rattle.ocp_world.specs.Names.{engine_fault_name}
use Rattle.ocp_world.specs.After.{Answer, Requested, Stepped, Commanded, Written}
use Rattle.ocp_world.specs.World as event
use Rattle.ocp_core.specs.Log.{Log, empty_log, expand, world_of, answer_in, log_after}
use Rattle.ocp_core.specs.Slice.{slice_in, slice_log}
use Rattle.ocp_core.specs.Round.{round_in, round_log}
use Rattle.ocp_lines.specs.Grammar.{Meaning, Nothing, Up, Send, Time, Step, Round, Break, Unbreak, Trace, Traces, View, Memory, Pool, Put, Journal, Drain, Work, command_of}
use Rattle.ocp_words.specs.declared.job.Settings.{Settings}
use Rattle.ocp_console.specs.declared.console.Console.{Console}
use Rattle.ocp_console.specs.Texts.{report_line, discard_line, refusal_line, step_line, round_line, break_line, unbreak_line, switch_line, memory_line, pool_line, put_line, journal_line}

-- What a console keeps from line to line: the profile of its lines and telecommands; the engine,
-- which is its journal; the application process identifier of the ground's telecommands; the time
-- of the next requests and drains; the ground count, which is the sequence count of the next
-- telecommand.
pub record State : Type 0 where
  pub profile : Profile
  pub engine : Log
  pub apid : ℕ
  pub time : ℕ
  pub count : ℕ

abbrev pub state_of : {A : Type 0} → Console A → State
state_of c = record {
  profile = c.profile;
  engine = c.engine;
  apid = c.apid;
  time = c.time;
  count = c.count;
}

-- the state before the first line
abbrev pub opening : Settings → State
opening settings = record {
  profile = settings.profile;
  engine = empty_log settings.profile settings.apid settings.pool_words settings.capacity;
  apid = settings.apid;
  time = 0;
  count = 0;
}

-- ---- requests and drains

-- what is printed of a request or a drain
abbrev pub answer_text : Answer → List ℕ
answer_text (Requested (Ok reports)) = flat_map report_line reports
answer_text (Requested (Err (fault.Discarded why))) = discard_line why
answer_text (Requested (Err fault.Memory)) = []
answer_text (Requested (Err refused)) = refusal_line (engine_fault_name refused)
answer_text (Stepped outcome) = []
answer_text (Commanded result) = []
answer_text (Written result) = []

-- the journal after an answer: a refused request or drain leaves no entry
abbrev pub log_by_answer : Answer → Log → Log → Log
log_by_answer (Requested (Ok reports)) old new = new
log_by_answer (Requested (Err fault)) old new = old
log_by_answer (Stepped outcome) old new = old
log_by_answer (Commanded result) old new = old
log_by_answer (Written result) old new = old

-- a request or a drain reaches the engine
abbrev pub on_event : State → event.Event → State × List ℕ
on_event state asked =
    let answer = answer_in state.engine asked in
    let log = log_by_answer answer state.engine (log_after state.engine asked) in
    (record state { engine = log }, answer_text answer)

-- these octets reach the engine, by the console's seat 0
abbrev pub on_octets : State → List ℕ → State × List ℕ
on_octets state octets = on_event state (event.Request 0 state.time octets)

-- the reports of the completions that wait are sent, by the console's seat 0
abbrev pub on_drain : State → State × List ℕ
on_drain state = on_event state (event.Drain 0 state.time)

-- the telecommand of a request of service 18, from source 0
abbrev pub telecommand : Profile → ℕ → ℕ → ℕ → Request → List ℕ
telecommand profile apid count ack request = telecommand_octets (record {
  apid = apid;
  count = count;
  ack = flags ack;
  service = 18;
  subtype = subtype_of request;
  source = 0;
  payload = request_data profile request;
})

-- the ground count rises with each telecommand
abbrev pub with_next_count : State → State
with_next_count state = record state { count = (state.count + 1) % SEQUENCE_COUNTS }

-- a telecommand of this request reaches the engine
abbrev pub on_request : State → ℕ → Request → State × List ℕ
on_request state ack request =
    on_octets (with_next_count state)
    (telecommand state.profile state.apid state.count ack request)

-- ---- the debugger

-- what is printed of a command: the line of its result
abbrev pub command_text : (Result (Unit {0}) DebugFault → List ℕ) → Answer → List ℕ
command_text line (Commanded result) = line result
command_text line (Requested result) = []
command_text line (Stepped outcome) = []
command_text line (Written result) = []

-- a command to a procedure, by the console's seat 0, with the line of its result
abbrev pub on_debug :
    State → ℕ → Command → (Result (Unit {0}) DebugFault → List ℕ) → State × List ℕ
on_debug state id command line =
    let event = event.Debug 0 id command in (
      record state { engine = log_after state.engine event },
      command_text line (answer_in state.engine event),
    )

-- the lines of the trace records that are kept, the oldest first
abbrev pub trace_lines : State → List ℕ
trace_lines state = flat_map trace_line (last_traces (world_of state.engine).traces)

-- the lines of a procedure
abbrev pub view_text : State → ℕ → List ℕ
view_text state id = view_lines id (view_at (get (world_of state.engine).records id))

-- the line of some octets of a procedure's memory
abbrev pub memory_text : State → ℕ → ℕ → ℕ → List ℕ
memory_text state id address count =
    memory_line id address (memory_at (get (world_of state.engine).records id) address count)

-- ---- the other lines

abbrev pub on_steps : State → ℕ → ℕ → State × List ℕ
on_steps state id budget =
    let slice = slice_in state.engine 0 id budget in (
      record state { engine = slice_log state.engine 0 id budget },
      step_line id slice.count slice.last,
    )

abbrev pub on_round : State → ℕ → ℕ → State × List ℕ
on_round state id budget = (
  record state { engine = round_log state.engine 0 id budget },
  round_line id (round_in state.engine 0 id budget),
)

-- what is printed of a write of a pool word: the line of its result
abbrev pub put_text : (Result (Unit {0}) PutFault → List ℕ) → Answer → List ℕ
put_text line (Written result) = line result
put_text line (Requested result) = []
put_text line (Stepped outcome) = []
put_text line (Commanded result) = []

-- a write of a pool word, by the console's seat 0
abbrev pub on_put : State → ℕ → ℕ → State × List ℕ
on_put state index value =
    let event = event.Put 0 index value in (
      record state { engine = log_after state.engine event },
      put_text (put_line index value) (answer_in state.engine event),
    )

-- ---- each line

-- what a line asks for: that this is the next state, and this is printed; or that a number of
-- workers take turns, with their budget and how many turns each takes
pub data Effect : Type 0 where
  Does : State × List ℕ → Effect
  Works : ℕ → ℕ → ℕ → Effect

abbrev pub effect_of : State → Meaning → Effect
effect_of state Nothing = Does (state, [])
effect_of state (Up octets) = Does (on_octets state octets)
effect_of state (Send ack request) = Does (on_request state ack request)
effect_of state (Time time) = Does (record state { time = time }, [])
effect_of state (Step id budget) = Does (on_steps state id budget)
effect_of state (Round id budget) = Does (on_round state id budget)
effect_of state (Break id place) = Does (on_debug state id (SetBreak place) (break_line id place))
effect_of state (Unbreak id place) =
    Does (on_debug state id (ClearBreak place) (unbreak_line id place))
effect_of state (Trace id on) = Does (on_debug state id (SetTrace on) (switch_line id on))
effect_of state Traces = Does (state, trace_lines state)
effect_of state (View id) = Does (state, view_text state id)
effect_of state (Memory id address count) = Does (state, memory_text state id address count)
effect_of state (Pool index) =
    Does (state, pool_line index (slice_get (world_of state.engine).pool index))
effect_of state (Put index value) = Does (on_put state index value)
effect_of state Journal = Does (state, journal_line (length (expand state.engine.entries)))
effect_of state Drain = Does (on_drain state)
effect_of state (Work workers budget turns) = Works workers budget turns

abbrev pub response : State → Option Meaning → Option Effect
response state None = None
response state (Some said) = Some (effect_of state said)

-- what a line asks for; none if it is no command
unfoldable pub respond : State → List ℕ → Option Effect
respond state line = response state (command_of state.profile line)
