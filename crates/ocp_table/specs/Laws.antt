-- What the laws of the table state.
use Rattle.std.specs.Prelude.{◌≡◌, ◌⊎◌, List, [], ℕ, Option, Some, None}
use Rattle.ocp_profile.specs.declared.profile.Profile.{Profile}
use Rattle.bpf_step.specs.Machine.{State, machine_at_start, machine_at_restart}
use Rattle.ocp_table.specs.declared.control.Control.{Control}
use Rattle.ocp_table.specs.Records.{Rec}
use Rattle.ocp_table.specs.Effects.{Change, BreakSet, BreakCleared, TraceSet}
use Rattle.ocp_table.specs.RequestTable.{Directive, Load, Unload, Activate, Step}

-- the machine of a procedure, if it is loaded
abbrev pub machine_of : Option Rec → Option State
machine_of None = None
machine_of (Some r) = Some r.machine

-- a machine that was there is restarted with some arguments
abbrev pub IsRestarted : Option State → State → Type 0
IsRestarted None machine = ⊥
IsRestarted (Some before) machine =
    (arguments : List ℕ) × (machine ≡ machine_at_restart arguments before)

-- the machine that there is afterwards is the one that was there, or that one restarted, or a new
-- one of some profile
abbrev pub IsKeptOrStarted : Option State → Option State → Type 0
IsKeptOrStarted old new =
    (machine : State) → new ≡ Some machine →
    (old ≡ Some machine)
    ⊎ (((profile : Profile) × (machine ≡ machine_at_start profile [])) ⊎ IsRestarted old machine)

-- a directive of a request: it is no instruction event
abbrev pub IsRequest : Directive → Type 0
IsRequest (Step pool) = ⊥
IsRequest directive = Unit {0}

-- a directive that loads, drops and starts no procedure, and does no instruction
abbrev pub LeavesMachines : Directive → Type 0
LeavesMachines (Load profile image) = ⊥
LeavesMachines Unload = ⊥
LeavesMachines (Activate budget arguments) = ⊥
LeavesMachines (Step pool) = ⊥
LeavesMachines directive = Unit {0}

-- what a procedure runs by: all of its record but the breakpoints and the trace flag
pub record Run : Type 0 where
  pub image : List ℕ
  pub machine : State
  pub mailbox : List ℕ
  pub control : Control
  pub remaining : Option ℕ

-- what a procedure runs by, if it is loaded
abbrev pub run_of : Option Rec → Option Run
run_of None = None
run_of (Some r) = Some (record {
  image = r.image;
  machine = r.machine;
  mailbox = r.mailbox;
  control = r.control;
  remaining = r.remaining;
})

-- a change that a debugger makes
abbrev pub IsDebugging : Change → Type 0
IsDebugging (BreakSet place) = Unit {0}
IsDebugging (BreakCleared place) = Unit {0}
IsDebugging (TraceSet on) = Unit {0}
IsDebugging change = ⊥
