-- What the laws of the world state.
use Rattle.std.specs.Prelude.{◌≡◌, ℕ, ◌==◌, ◌&&◌, Bool, false, List, ◌++◌, Result, Ok, Err}
use Rattle.std.specs.FinMap.{get}
use Rattle.ocp_profile.specs.declared.profile.Profile.{Profile}
use Rattle.pus_fields.specs.declared.fault.TcFault.{TcFault}
use Rattle.pus_fields.specs.Telecommand.{Telecommand}
use Rattle.pus_fields.specs.TelecommandFaults.{telecommand_of}
use Rattle.obcp_types.specs.declared.failure.RequestFault.{RequestFault}
use Rattle.obcp_messages.specs.declared.request.Request.{Request as Command}
use Rattle.obcp_messages.specs.declared.request.Request.TheVariants as command
use Rattle.ocp_debug.specs.declared.trace.Trace.{Trace}
use Rattle.ocp_world.specs.World.{World, Event, Request, Step, Debug, Drain, Put}
use Rattle.ocp_world.specs.Requests.{command_of}
use Rattle.ocp_world.specs.Slice.{is_running}

-- a request that loads, unloads or activates this procedure
abbrev pub is_start_of : ℕ → Command → Bool
is_start_of id (command.Load own code) = own == id
is_start_of id (command.Unload own) = own == id
is_start_of id (command.Activate own budget arguments) = own == id
is_start_of id request = false

abbrev pub is_start_in : ℕ → Result Command RequestFault → Bool
is_start_in id (Ok request) = is_start_of id request
is_start_in id (Err fault) = false

abbrev pub is_start_by : Profile → ℕ → Result Telecommand TcFault → Bool
is_start_by profile id (Ok telecommand) = is_start_in id (command_of profile telecommand)
is_start_by profile id (Err fault) = false

-- the events that may change the machine of a procedure: its load, its unload, its activation, and
-- its own instruction while it runs
abbrev pub may_change_machine : World → Event → ℕ → Bool
may_change_machine w (Request by time octets) id =
    is_start_by w.profile id (telecommand_of w.apid octets)
may_change_machine w (Step by own) id = (own == id) && is_running (get w.records own)
may_change_machine w (Debug by own command) id = false
may_change_machine w (Drain by time) id = false
may_change_machine w (Put by index value) id = false

-- the later trace records are the earlier ones and then more
abbrev pub IsAppended : List Trace → List Trace → Type 0
IsAppended old new = (more : List Trace) × (new ≡ old ++ more)
