-- What a contract sees of an engine: its journal and its parameters. The engine's world is the
-- journal's replay.
use Rattle.std.specs.Prelude.{ℕ, List, [], ◌∷◌, ◌++◌, ◌==◌, Bool, if◌then◌else◌, length, replicate, Err}
use Rattle.std.specs.List.{flat_map}
use Rattle.ocp_profile.specs.declared.profile.Profile.{Profile}
use Rattle.ocp_table.specs.declared.answers.StepOutcome.TheVariants as S
use Rattle.ocp_world.specs.declared.answers.EngineFault.TheVariants as engine
use Rattle.ocp_world.specs.declared.answers.PutFault.TheVariants as put
use Rattle.ocp_debug.specs.declared.command.Command.{Command}
use Rattle.ocp_debug.specs.declared.command.DebugFault.TheVariants as debug
use Rattle.ocp_world.specs.World.{World, Event, Request, Step, Debug, Drain, Put}
use Rattle.ocp_world.specs.After.{Answer, Requested, Stepped, Commanded, Written, after, is_accepted}
use Rattle.ocp_world.specs.Replay.{replay}

-- a request with its seat and time; a number of instructions of one procedure with their seat; a
-- debugger's command to a procedure with its seat; a drain with its seat and time; or a write of
-- the pool word at an index with its seat and value
pub data Entry : Type 0 where
  Asked : ℕ → ℕ → List ℕ → Entry
  Steps : ℕ → ℕ → ℕ → Entry
  Debugged : ℕ → ℕ → Command → Entry
  Drained : ℕ → ℕ → Entry
  Wrote : ℕ → ℕ → ℕ → Entry

abbrev pub events_of : Entry → List Event
events_of (Asked by time octets) = Request by time octets ∷ []
events_of (Steps by id count) = replicate count (Step by id)
events_of (Debugged by id command) = Debug by id command ∷ []
events_of (Drained by time) = Drain by time ∷ []
events_of (Wrote by index value) = Put by index value ∷ []

-- the single events of a journal
abbrev pub expand : List Entry → List Event
expand entries = flat_map events_of entries

-- the profile, the application process identifier, the number of pool words, the largest number of
-- entries, and the entries
pub record Log : Type 0 where
  pub profile : Profile
  pub apid : ℕ
  pub words : ℕ
  pub capacity : ℕ
  pub entries : List Entry

-- a journal without entries
abbrev pub empty_log : Profile → ℕ → ℕ → ℕ → Log
empty_log profile apid words capacity = record {
  profile = profile;
  apid = apid;
  words = words;
  capacity = capacity;
  entries = [];
}

unfoldable pub world_of : Log → World
world_of log = replay log.profile log.apid log.words (expand log.entries)

-- there is no room for a further entry
abbrev pub is_full : Log → Bool
is_full log = length log.entries == log.capacity

-- with one more entry
abbrev pub with_entry : Log → Entry → Log
with_entry log entry = record log { entries = log.entries ++ entry ∷ [] }

-- the entry of an accepted event
abbrev pub entry_for : Event → Entry
entry_for (Request by time octets) = Asked by time octets
entry_for (Step by id) = Steps by id 1
entry_for (Debug by id command) = Debugged by id command
entry_for (Drain by time) = Drained by time
entry_for (Put by index value) = Wrote by index value

abbrev pub full_answer : Event → Answer
full_answer (Request by time octets) = Requested (Err engine.JournalFull)
full_answer (Step by id) = Stepped S.JournalFull
full_answer (Debug by id command) = Commanded (Err debug.JournalFull)
full_answer (Drain by time) = Requested (Err engine.JournalFull)
full_answer (Put by index value) = Written (Err put.JournalFull)

-- the answer in a world, by whether there is no room for a further entry
abbrev pub answer_with : Bool → World → Event → Answer
answer_with full w e =
    let answer = (after w e).answer in
    if is_accepted answer then (if full then full_answer e else answer) else answer

-- an event that would be accepted is refused if the journal is full
abbrev pub answer_in : Log → Event → Answer
answer_in log e = answer_with (is_full log) (world_of log) e

-- an accepted event leaves one entry, and a refused one none
abbrev pub log_after : Log → Event → Log
log_after log e =
    if is_accepted (after (world_of log) e).answer
    then (if is_full log then log else with_entry log (entry_for e))
    else log
