-- What an event of a run does, and where a run ends.
use Rattle.std.specs.Prelude.{◌≡◌, ℕ, zero, Bool, true, false, if◌then◌else◌, List, [], ◌∷◌, Option, Some, None, Result, Ok, Err}
use Rattle.ocp_world.specs.World.{Event, Request, Step, Debug, Drain, Put}
use Rattle.ocp_table.specs.declared.answers.StepOutcome.TheVariants as S
use Rattle.ocp_debug.specs.declared.command.DebugFault.TheVariants as debug
use Rattle.ocp_world.specs.After.{Answer, Requested, Stepped, Commanded, Written, after, is_accepted}
use Rattle.ocp_world.specs.declared.answers.EngineFault.TheVariants as engine
use Rattle.ocp_world.specs.declared.answers.PutFault.TheVariants as put
use Rattle.ocp_core.specs.declared.answers.Answer as G
use Rattle.ocp_core.specs.declared.answers.RunRefusal.{RunRefusal}
use Rattle.ocp_core.specs.declared.answers.RunRefusal.TheVariants.{JournalFull, Memory}
use Rattle.ocp_core.specs.Log.{Log, world_of, is_full, answer_in, log_after}
use Rattle.ocp_core.specs.Journal.{answer_of}

-- the journal after events, each of which leaves its own entry or none
abbrev pub log_after_all : Log → List Event → Log
log_after_all log [] = log
log_after_all log (e ∷ es) = log_after_all (log_after log e) es

-- an event that would be accepted finds the journal full
abbrev pub finds_full : Log → Event → Bool
finds_full log e = if is_accepted (after (world_of log) e).answer then is_full log else false

-- none of the events finds the journal full
abbrev pub HasRoom : Log → List Event → Type 0
HasRoom log [] = Unit {0}
HasRoom log (e ∷ es) = (finds_full log e ≡ false) × HasRoom (log_after log e) es

-- memory is taken for a request that is accepted, and for a drain that is; an instruction, a
-- debugger's command and a write of a pool word take none
abbrev pub TakesMemory : Log → Event → Type 0
TakesMemory log (Request by time octets) =
    is_accepted (answer_in log (Request by time octets)) ≡ true
TakesMemory log (Step by id) = ⊥
TakesMemory log (Debug by id command) = ⊥
TakesMemory log (Drain by time) = is_accepted (answer_in log (Drain by time)) ≡ true
TakesMemory log (Put by index value) = ⊥

-- the event has this refusal
abbrev pub IsRefusedBy : Log → Event → RunRefusal → Type 0
IsRefusedBy log e JournalFull = finds_full log e ≡ true
IsRefusedBy log e Memory = TakesMemory log e

-- the answer, the world and the journal left are those of the event, which does not find the
-- journal full
pub record IsDone (old new : Log) (e : Event) (given : Answer) : Type 0 where
  pub answer : given ≡ (after (world_of old) e).answer
  pub world : world_of new ≡ (after (world_of old) e).world
  pub journal : new ≡ log_after old e
  pub room : finds_full old e ≡ false

-- why a run ends before an event with this answer, if it does: the journal is full, or there is no
-- memory
abbrev pub refusal_of : Answer → Option RunRefusal
refusal_of (Requested (Err engine.JournalFull)) = Some JournalFull
refusal_of (Requested (Err engine.Memory)) = Some Memory
refusal_of (Stepped S.JournalFull) = Some JournalFull
refusal_of (Commanded (Err debug.JournalFull)) = Some JournalFull
refusal_of (Written (Err put.JournalFull)) = Some JournalFull
refusal_of answer = None

-- the event is done; or it is refused and nothing is changed
abbrev pub Applies : {A : Type 0} → Log → Log → Event → Result (G.Answer A) RunRefusal → Type 0
Applies old new e (Ok answer) = IsDone old new e (answer_of answer)
Applies old new e (Err refusal) = IsRefusedBy old e refusal × (new ≡ old)

-- a run ends, with this journal, before the event of this index, which has this refusal; out of
-- memory it may also end before the first event, since room for all answers is taken there. A run
-- of no events does not end before one.
abbrev pub StopsAt : Log → RunRefusal → ℕ → Option Event → Type 0
StopsAt log Memory zero (Some e) = Unit {0}
StopsAt log refusal index (Some e) = IsRefusedBy log e refusal
StopsAt log refusal index None = ⊥
