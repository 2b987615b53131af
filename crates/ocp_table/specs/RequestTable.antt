-- The request table: what each request, and an instruction event, does to a procedure that is not
-- loaded (None), inactive, running or held, with p pending and n words in its mailbox. `Deciding`
-- defines what effect that has, and `Effects` what the effect makes of the records.
use Rattle.std.specs.Prelude.{ℕ, ◌+◌, Bool, nat_le, if◌then◌else◌, List, length, Option, Some, None}
use Rattle.obcp_types.specs.declared.status.Status.{Status}
use Rattle.obcp_types.specs.declared.status.Status.TheVariants.{Inactive, Running, Held}
use Rattle.obcp_types.specs.declared.failure.StartFailure.{StartFailure}
use Rattle.obcp_types.specs.declared.failure.StartFailure.TheVariants.{AlreadyLoaded, NotLoaded, NotInactive, NotActive, NotRunning, NotHeld, StopPending, MailboxFull, OutboxFull}
use Rattle.obcp_types.specs.declared.pending.PendingOrigin.{PendingOrigin}
use Rattle.ocp_profile.specs.declared.profile.Profile.{Profile}
use Rattle.ocp_pool.specs.declared.mailbox.TheConstants.{MAX_MAILBOX_WORDS}
use Rattle.ocp_table.specs.declared.control.Cause.TheVariants.{Stopped, Aborted}
use Rattle.ocp_table.specs.declared.control.Pending.{Pending}
use Rattle.ocp_table.specs.declared.control.Pending.TheVariants as pending
use Rattle.ocp_table.specs.Effects.{Change, Started, Sent, Pended, Quit, Resumed}

-- What is asked of a procedure: to load an image that its profile admits; to be dropped; to start
-- with a budget (0 is none) and arguments; to stop, or to be held, at the end of a step (0 is any);
-- to run on; to end at once; to take words; or to do its next instruction, with the pool as it is.
-- A stop or suspend has the request's origin, and whether no place is free for it.
pub data Directive : Type 0 where
  Load : Profile → List ℕ → Directive
  Unload : Directive
  Activate : ℕ → List ℕ → Directive
  Stop : ℕ → PendingOrigin → Bool → Directive
  Suspend : ℕ → PendingOrigin → Bool → Directive
  Resume : Directive
  Abort : Directive
  Communicate : List ℕ → Directive
  Step : List ℕ → Directive

-- what becomes of it: the image is loaded, unless the table is full or it may not be run; the
-- record is dropped, or changed; the next instruction is done; or it fails
pub data Decision : Type 0 where
  Loads : Profile → List ℕ → Decision
  Unloads : Decision
  Changes : Change → Decision
  Steps : List ℕ → Decision
  Fails : StartFailure → Decision

-- words are appended, or none of them
abbrev pub communication : List ℕ → ℕ → Decision
communication words there =
    if nat_le (there + length words) MAX_MAILBOX_WORDS then Changes (Sent words)
    else Fails MailboxFull

-- a stop or suspend becomes pending if a place is free for it; else what was pending stays
abbrev pub postponement : Bool → Pending → Decision
postponement full pending = if full then Fails OutboxFull else Changes (Pended pending)

abbrev pub transition : Directive → Option Status → Pending → ℕ → Decision
transition (Load profile image) None p n = Loads profile image
transition (Load profile image) (Some Inactive) p n = Fails AlreadyLoaded
transition (Load profile image) (Some Running) p n = Fails AlreadyLoaded
transition (Load profile image) (Some Held) p n = Fails AlreadyLoaded
transition Unload None p n = Fails NotLoaded
transition Unload (Some Inactive) p n = Unloads
transition Unload (Some Running) p n = Fails NotInactive
transition Unload (Some Held) p n = Fails NotInactive
transition (Activate budget arguments) None p n = Fails NotLoaded
transition (Activate budget arguments) (Some Inactive) p n = Changes (Started budget arguments)
transition (Activate budget arguments) (Some Running) p n = Fails NotInactive
transition (Activate budget arguments) (Some Held) p n = Fails NotInactive
transition (Stop s from full) None p n = Fails NotLoaded
transition (Stop s from full) (Some Inactive) p n = Fails NotActive
transition (Stop s from full) (Some Running) p n = postponement full (pending.Stop s from)
transition (Stop s from full) (Some Held) p n = Changes (Quit Stopped)
transition (Suspend s from full) None p n = Fails NotLoaded
transition (Suspend s from full) (Some Inactive) p n = Fails NotRunning
transition (Suspend s from full) (Some Running) pending.Nothing n =
    postponement full (pending.Suspend s from)
transition (Suspend s from full) (Some Running) (pending.Suspend t other) n =
    postponement full (pending.Suspend s from)
transition (Suspend s from full) (Some Running) (pending.Stop t other) n = Fails StopPending
transition (Suspend s from full) (Some Held) p n = Fails NotRunning
transition Resume None p n = Fails NotLoaded
transition Resume (Some Inactive) p n = Fails NotHeld
transition Resume (Some Running) p n = Fails NotHeld
transition Resume (Some Held) p n = Changes Resumed
transition Abort None p n = Fails NotLoaded
transition Abort (Some Inactive) p n = Fails NotActive
transition Abort (Some Running) p n = Changes (Quit Aborted)
transition Abort (Some Held) p n = Changes (Quit Aborted)
transition (Communicate words) None p n = Fails NotLoaded
transition (Communicate words) (Some Inactive) p n = Fails NotActive
transition (Communicate words) (Some Running) p n = communication words n
transition (Communicate words) (Some Held) p n = communication words n
transition (Step pool) None p n = Fails NotLoaded
transition (Step pool) (Some Inactive) p n = Fails NotRunning
transition (Step pool) (Some Running) p n = Steps pool
transition (Step pool) (Some Held) p n = Fails NotRunning

-- why it fails by the table, if it does
abbrev pub failure_by : Decision → Option StartFailure
failure_by (Fails failure) = Some failure
failure_by decision = None
