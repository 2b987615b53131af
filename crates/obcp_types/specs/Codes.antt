-- The numbers that reports have for a status and for a failure.
use Rattle.std.specs.Prelude.{ℕ}
use Rattle.pus_fields.specs.declared.fault.Rejection.TheVariants.{Segmented, NoSecondary, NoRoom, Pec, PusVersion}
use Rattle.obcp_types.specs.declared.failure.AcceptanceFailure.{AcceptanceFailure}
use Rattle.obcp_types.specs.declared.failure.AcceptanceFailure.TheVariants.{Packet, Request}
use Rattle.obcp_types.specs.declared.failure.RequestFault.TheVariants.{Service, Subtype, Layout}
use Rattle.obcp_types.specs.declared.failure.StartFailure.{StartFailure}
use Rattle.obcp_types.specs.declared.failure.StartFailure.TheVariants.{AlreadyLoaded, TableFull, BadCode, NotLoaded, NotInactive, NotActive, NotRunning, NotHeld, StopPending, MailboxFull, OutboxFull}
use Rattle.obcp_types.specs.declared.failure.CompletionFailure.{CompletionFailure}
use Rattle.obcp_types.specs.declared.failure.CompletionFailure.TheVariants.{Overtaken}
use Rattle.obcp_types.specs.declared.status.Status.{Status}
use Rattle.obcp_types.specs.declared.status.Status.TheVariants.{Inactive, Running, Held}

-- the number of a status in a status report
abbrev pub status_code : Status → ℕ
status_code Inactive = 0
status_code Running = 1
status_code Held = 2

-- the codes of a failed acceptance: a packet that is rejected, or service data that are no request
abbrev pub acceptance_code : AcceptanceFailure → ℕ
acceptance_code (Packet Segmented) = 1
acceptance_code (Packet NoSecondary) = 2
acceptance_code (Packet NoRoom) = 3
acceptance_code (Packet Pec) = 4
acceptance_code (Packet PusVersion) = 5
acceptance_code (Request Service) = 6
acceptance_code (Request Subtype) = 7
acceptance_code (Request Layout) = 8

-- the codes of a failed start
abbrev pub start_code : StartFailure → ℕ
start_code AlreadyLoaded = 16
start_code TableFull = 17
start_code (BadCode fault slot) = 18
start_code NotLoaded = 19
start_code NotInactive = 20
start_code NotActive = 21
start_code NotRunning = 22
start_code NotHeld = 23
start_code StopPending = 24
start_code MailboxFull = 25
start_code OutboxFull = 27

-- the codes of a failed completion
abbrev pub completion_code : CompletionFailure → ℕ
completion_code Overtaken = 26
