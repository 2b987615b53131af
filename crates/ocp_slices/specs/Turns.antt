-- What a turn does, and what it adds to a seat.
use Rattle.std.specs.Prelude.{◌≡◌, ◌≢◌, ◌≤◌, ◌⊎◌, ℕ, Ok, Err}
use Rattle.ocp_table.specs.declared.answers.StepOutcome.{StepOutcome}
use Rattle.ocp_table.specs.declared.answers.StepOutcome.TheVariants as S
use Rattle.ocp_table.specs.Snapshots.{count_of}
use Rattle.ocp_core.specs.declared.answers.CommitOutcome.{CommitOutcome}
use Rattle.ocp_core.specs.declared.answers.CommitOutcome.TheVariants as C
use Rattle.ocp_core.specs.Tickets.{TicketContents, WorkContents, IsRun}
use Rattle.ocp_seats.specs.declared.book.TakeFault.{TakeFault}
use Rattle.ocp_seats.specs.declared.book.TakeFault.TheVariants as T
use Rattle.ocp_seats.specs.Seats.{SeatContents, Gains}
use Rattle.ocp_core.specs.Receipts.{step_entries, commit_entries}
use Rattle.ocp_slices.specs.Replies.{Reply, TakeReply, CommitReply, StepReply}
use Rattle.ocp_slices.specs.declared.turn.Turn.{Turn}
use Rattle.ocp_slices.specs.declared.turn.Turn.TheVariants.{Idle, Committed, Stepped, Stale, Full, NoMemory}

-- a ticket was given, and the work is as many instructions of it as its procedure does by itself
-- within the budget
pub record IsWorkOf (answers : Reply → Type 0) (budget : ℕ) (work : WorkContents) : Type 0 where
  pub ticket : TicketContents
  pub given : answers (TakeReply (Ok ticket))
  pub id : work.id ≡ ticket.id
  pub base : work.base ≡ ticket.base
  pub count : work.count ≡ count_of ticket.base budget
  pub ran : IsRun work

-- a seat handed in such a work and was answered this
pub record HandsIn (answers : Reply → Type 0) (budget by : ℕ) (o : CommitOutcome) : Type 0 where
  pub work : WorkContents
  pub of_ticket : IsWorkOf answers budget work
  pub answered : answers (CommitReply by work o)

-- that work was empty, and then the seat asked for an instruction of the same procedure and was
-- answered this
pub record Asks (answers : Reply → Type 0) (budget by : ℕ) (o : StepOutcome) : Type 0 where
  pub hands_in : HandsIn answers budget by C.Empty
  pub answered : answers (StepReply by hands_in.work.id o)

-- a turn answers what the board answered, and the seat gains the entry of what was committed or
-- stepped, or nothing; at least one instruction is committed and no more than the budget, or one is
-- stepped, and a step that finds the journal full is no step
abbrev pub IsTurn : (Reply → Type 0) → ℕ → SeatContents → SeatContents → Turn → Type 0
IsTurn answers budget old new Idle = answers (TakeReply (Err T.NoneRunning)) × (new ≡ old)
IsTurn answers budget old new (Committed count) =
    (count ≢ 0) × (count ≤ budget)
    × ((h : HandsIn answers budget old.number (C.Committed count)) × (h.work.count ≡ count)
    × Gains old new (commit_entries old.number h.work.id (C.Committed count)))
IsTurn answers budget old new (Stepped outcome) =
    (outcome ≢ S.JournalFull)
    × ((a : Asks answers budget old.number outcome)
    × Gains old new (step_entries old.number a.hands_in.work.id outcome))
IsTurn answers budget old new Stale = HandsIn answers budget old.number C.Stale × (new ≡ old)
IsTurn answers budget old new Full =
    (HandsIn answers budget old.number C.JournalFull
    ⊎ Asks answers budget old.number S.JournalFull) × (new ≡ old)
IsTurn answers budget old new NoMemory = answers (TakeReply (Err T.Memory)) × (new ≡ old)

-- what a turn answers if there is no ticket
abbrev pub turn_without : TakeFault → Turn
turn_without T.NoneRunning = Idle
turn_without T.Memory = NoMemory
