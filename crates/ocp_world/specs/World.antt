-- The world of an engine, and the events that can happen in it (ECSS-E-ST-70-41C, 6.1 and
-- 6.18).
use Rattle.std.specs.Prelude.{ℕ, List, [], replicate}
use Rattle.std.specs.FinMap.{empty}
use Rattle.ocp_profile.specs.declared.profile.Profile.{Profile}
use Rattle.obcp_types.specs.declared.pending.Due.{Due}
use Rattle.ocp_table.specs.Records.{Records}
use Rattle.ocp_debug.specs.declared.command.Command.{Command}
use Rattle.ocp_debug.specs.declared.trace.Trace.{Trace}

-- the profile; the application process; its procedures; the completions that wait to be reported,
-- the oldest first; the words of its pool; how many events it has accepted; how many reports it has
-- sent; and all trace records that were made, the oldest first
pub record World : Type 0 where
  pub profile : Profile
  pub apid : ℕ
  pub records : Records
  pub outbox : List Due
  pub pool : List ℕ
  pub events : ℕ
  pub reports : ℕ
  pub traces : List Trace

-- a world of a profile in which no procedure is loaded, with `words` pool words, all of them 0
abbrev pub opening : Profile → ℕ → ℕ → World
opening profile apid words = record {
  profile = profile;
  apid = apid;
  records = empty;
  outbox = [];
  pool = replicate words 0;
  events = 0;
  reports = 0;
  traces = [];
}

-- the octets of a request, with the seat that they came from and the time; one instruction of a
-- procedure, with the seat; a debugger's command to a procedure, with the seat; the sending of the
-- completions that wait, with the seat that asked for it and the time; or a write of the pool word
-- at an index from outside, with the seat, the index and the value
pub data Event : Type 0 where
  Request : ℕ → ℕ → List ℕ → Event
  Step : ℕ → ℕ → Event
  Debug : ℕ → ℕ → Command → Event
  Drain : ℕ → ℕ → Event
  Put : ℕ → ℕ → ℕ → Event
