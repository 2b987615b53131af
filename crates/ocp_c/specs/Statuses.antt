-- The statuses that calls answer to C.
use Rattle.std.specs.Prelude.{ℕ, Result, Ok, Err}
use Rattle.ocp_table.specs.declared.answers.StepOutcome.{StepOutcome}
use Rattle.ocp_table.specs.declared.answers.StepOutcome.TheVariants as S
use Rattle.ocp_debug.specs.declared.command.DebugFault.{DebugFault}
use Rattle.ocp_world.specs.declared.answers.PutFault.{PutFault}
use Rattle.ocp_world.specs.declared.answers.PutFault.TheVariants as put
use Rattle.ocp_debug.specs.declared.command.DebugFault.TheVariants as debug
use Rattle.pus_fields.specs.declared.fault.Discard.TheVariants as discard
use Rattle.ocp_world.specs.declared.answers.EngineFault.{EngineFault}
use Rattle.ocp_world.specs.declared.answers.EngineFault.TheVariants as engine
use Rattle.ocp_flight.specs.declared.faults.EntryFault.{EntryFault}
use Rattle.ocp_flight.specs.declared.faults.EntryFault.TheVariants as entry
use Rattle.ocp_flight.specs.declared.faults.ReleaseFault.{ReleaseFault}
use Rattle.ocp_flight.specs.declared.faults.ReleaseFault.TheVariants as release
use Rattle.ocp_c.specs.declared.status.Status.{Status}
use Rattle.ocp_c.specs.declared.status.Status.TheVariants as status

-- the numbers of the header
abbrev pub number_of : Status → ℕ
number_of status.Done = 0
number_of status.NotOpen = 1
number_of status.AlreadyOpen = 2
number_of status.BadProfile = 3
number_of status.BadApid = 4
number_of status.BadPoolWords = 5
number_of status.BadCapacity = 6
number_of status.Memory = 7
number_of status.BufferTooSmall = 8
number_of status.JournalFull = 9
number_of status.DiscardedShort = 10
number_of status.DiscardedVersion = 11
number_of status.DiscardedLength = 12
number_of status.DiscardedNotTelecommand = 13
number_of status.DiscardedOtherApid = 14
number_of status.NothingDue = 15
number_of status.NotLoaded = 16
number_of status.NotRunning = 17
number_of status.NoneRunning = 18
number_of status.NoBudget = 19
number_of status.NotAnInstruction = 20
number_of status.AlreadySet = 21
number_of status.BreaksFull = 22
number_of status.NotSet = 23
number_of status.OutsideMemory = 24
number_of status.NoWord = 25
number_of status.NoEntry = 26
number_of status.BadOctets = 27
number_of status.NotHeld = 28
number_of status.Spent = 29
number_of status.Released = 30
number_of status.NoRecord = 31

-- the status of an instruction
abbrev pub status_of : StepOutcome → Status
status_of S.Broke = status.Done
status_of S.Ran = status.Done
status_of S.Called = status.Done
status_of S.Ended = status.Done
status_of (S.Faulted number) = status.Done
status_of S.NotLoaded = status.NotLoaded
status_of S.NotRunning = status.NotRunning
status_of S.JournalFull = status.JournalFull

-- the status of a write of a pool word
abbrev pub status_of_put : Result (Unit {0}) PutFault → Status
status_of_put (Ok done) = status.Done
status_of_put (Err put.BadPoolIndex) = status.NoWord
status_of_put (Err put.JournalFull) = status.JournalFull

-- the status of a debugger's command
abbrev pub status_of_command : Result (Unit {0}) DebugFault → Status
status_of_command (Ok done) = status.Done
status_of_command (Err debug.NotLoaded) = status.NotLoaded
status_of_command (Err debug.NotAnInstruction) = status.NotAnInstruction
status_of_command (Err debug.AlreadySet) = status.AlreadySet
status_of_command (Err debug.BreaksFull) = status.BreaksFull
status_of_command (Err debug.NotSet) = status.NotSet
status_of_command (Err debug.JournalFull) = status.JournalFull
status_of_command (Err debug.OutsideMemory) = status.OutsideMemory

-- the status of a request or a drain that is refused
abbrev pub status_of_fault : EngineFault → Status
status_of_fault (engine.Discarded discard.Short) = status.DiscardedShort
status_of_fault (engine.Discarded discard.Version) = status.DiscardedVersion
status_of_fault (engine.Discarded discard.Length) = status.DiscardedLength
status_of_fault (engine.Discarded discard.NotTelecommand) = status.DiscardedNotTelecommand
status_of_fault (engine.Discarded discard.OtherApid) = status.DiscardedOtherApid
status_of_fault engine.JournalFull = status.JournalFull
status_of_fault engine.Memory = status.Memory
status_of_fault engine.NothingDue = status.NothingDue

-- the status of an entry that is read
abbrev pub status_of_entry : Result ℕ EntryFault → Status
status_of_entry (Ok length) = status.Done
status_of_entry (Err entry.Released) = status.Released
status_of_entry (Err entry.NotYet) = status.NoEntry
status_of_entry (Err (entry.TooShort length)) = status.BufferTooSmall

-- the status of a release
abbrev pub status_of_release : Result (Unit {0}) ReleaseFault → Status
status_of_release (Ok done) = status.Done
status_of_release (Err release.NotHeld) = status.NotHeld
status_of_release (Err release.Spent) = status.Spent
