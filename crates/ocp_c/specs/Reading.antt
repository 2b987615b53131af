-- What C reads of an engine.
use Rattle.std.specs.Prelude.{ℕ, nat_lt, nat_le, if◌then◌else◌, List, ◌++◌, drop, Option, Some, None, Result, Ok, Err}
use Rattle.obcp_types.specs.Codes.{status_code}
use Rattle.ocp_table.specs.declared.control.Cause.{Cause}
use Rattle.ocp_table.specs.declared.control.Cause.TheVariants as cause
use Rattle.ocp_table.specs.declared.control.Pending.{Pending}
use Rattle.ocp_table.specs.declared.control.Pending.TheVariants as pending
use Rattle.ocp_table.specs.declared.view.View.{View}
use Rattle.ocp_table.specs.Faults.{fault_number}
use Rattle.ocp_debug.specs.declared.command.DebugFault.{DebugFault}
use Rattle.ocp_c.specs.declared.status.Status.{Status}
use Rattle.ocp_c.specs.declared.status.Status.TheVariants as status
use Rattle.ocp_c.specs.declared.procedure.Procedure.{Procedure}
use Rattle.ocp_c.specs.Statuses.{status_of_command}

-- the identifier that a number is: none of 65,536 on
abbrev pub identifier_in : ℕ → Option ℕ
identifier_in number = if nat_lt number 65536 then Some number else None

-- ---- memory

abbrev pub status_of_read : Result (List ℕ) DebugFault → Status
status_of_read (Ok octets) = status.Done
status_of_read (Err fault) = status_of_command (Err fault)

abbrev pub octets_or : Result (List ℕ) DebugFault → List ℕ → List ℕ
octets_or (Ok octets) before = octets
octets_or (Err fault) before = before

-- ---- views

abbrev pub cause_number : Cause → ℕ
cause_number cause.Nothing = 0
cause_number cause.Exited = 1
cause_number cause.Stopped = 2
cause_number cause.Aborted = 3
cause_number (cause.Fault why) = 4

abbrev pub fault_of_cause : Cause → ℕ
fault_of_cause cause.Nothing = 0
fault_of_cause cause.Exited = 0
fault_of_cause cause.Stopped = 0
fault_of_cause cause.Aborted = 0
fault_of_cause (cause.Fault why) = fault_number why

abbrev pub pending_number : Pending → ℕ
pending_number pending.Nothing = 0
pending_number (pending.Stop step from) = 1
pending_number (pending.Suspend step from) = 2

abbrev pub step_of_pending : Pending → ℕ
step_of_pending pending.Nothing = 0
step_of_pending (pending.Stop step from) = step
step_of_pending (pending.Suspend step from) = step

abbrev pub has_budget : Option ℕ → ℕ
has_budget None = 0
has_budget (Some remaining) = 1

abbrev pub budget_left : Option ℕ → ℕ
budget_left None = 0
budget_left (Some remaining) = remaining

-- a view as C sees it
abbrev pub procedure_of : View → Procedure
procedure_of view = record {
  status = status_code view.status;
  cause = cause_number view.cause;
  fault = fault_of_cause view.cause;
  place = view.place;
  depth = if nat_lt view.depth 4294967296 then view.depth else 4294967295;
  pending = pending_number view.pending;
  pending_step = step_of_pending view.pending;
  has_budget = has_budget view.remaining;
  remaining = budget_left view.remaining;
}

-- a buffer of under 11 registers is refused before anything else
abbrev pub view_status : ℕ → Option View → Status
view_status room None = if nat_le 11 room then status.NotLoaded else status.BufferTooSmall
view_status room (Some view) = if nat_le 11 room then status.Done else status.BufferTooSmall

abbrev pub procedure_or : ℕ → Option View → Procedure → Procedure
procedure_or room None before = before
procedure_or room (Some view) before = if nat_le 11 room then procedure_of view else before

-- the registers from the front on; what follows them stays
abbrev pub registers_or : ℕ → Option View → List ℕ → List ℕ
registers_or room None before = before
registers_or room (Some view) before =
    if nat_le 11 room then view.registers ++ drop 11 before else before
