-- What is asked of a board, with its answer.
use Rattle.std.specs.Prelude.{◌≡◌, ◌≤◌, ◌↔◌, ℕ, Result}
use Rattle.ocp_table.specs.declared.answers.StepOutcome.{StepOutcome}
use Rattle.ocp_table.specs.declared.answers.Slice.{Slice}
use Rattle.ocp_world.specs.World.{Event, Step}
use Rattle.ocp_world.specs.After.{Answer, Stepped}
use Rattle.ocp_core.specs.declared.answers.CommitOutcome.{CommitOutcome}
use Rattle.ocp_core.specs.declared.answers.CommitOutcome.TheVariants.{Empty, Committed}
use Rattle.ocp_core.specs.Receipts.{event_entries, slice_entries, commit_entries}
use Rattle.ocp_core.specs.Tickets.{TicketContents, WorkContents}
use Rattle.ocp_seats.specs.declared.book.TakeFault.{TakeFault}
use Rattle.ocp_seats.specs.declared.seat.SeatFault.{SeatFault}
use Rattle.ocp_seats.specs.Seats.{SeatContents, Gains}

-- a seat, or why none; a ticket, or why none; and, each with the number of the seat that asked: the
-- outcome of a work, the slice of a procedure within a budget, and the answer to an event
pub data Reply : Type 0 where
  SeatReply : Result SeatContents SeatFault → Reply
  TakeReply : Result TicketContents TakeFault → Reply
  CommitReply : ℕ → WorkContents → CommitOutcome → Reply
  SliceReply : ℕ → ℕ → ℕ → Slice → Reply
  EventReply : Event → Answer → Reply

-- the outcome of an instruction of a procedure
abbrev pub StepReply : ℕ → ℕ → StepOutcome → Reply
StepReply by id outcome = EventReply (Step by id) (Stepped outcome)

-- the board gave this answer to a seat's event, and the seat gained the entry of an accepted one
pub record IsServed (answers : Reply → Type 0) (old new : SeatContents) (e : Event)
    (answer : Answer) : Type 0 where
  pub given : answers (EventReply e answer)
  pub gains : Gains old new (event_entries e answer)

-- The board gave this answer to a seat's slice of a procedure, within its budget, and the seat
-- gained its entry, or none if it did nothing.
pub record IsSliced (answers : Reply → Type 0) (old new : SeatContents) (id budget : ℕ)
    (slice : Slice) : Type 0 where
  pub given : answers (SliceReply old.number id budget slice)
  pub within : slice.count ≤ budget
  pub gains : Gains old new (slice_entries old.number id slice)

-- The board gave this outcome to a seat that handed in a work, and the seat gained the entry of a
-- committed one. The outcome is Empty exactly if the work has no instructions; if it is Committed,
-- all of them are.
pub record IsHandedIn (answers : Reply → Type 0) (old new : SeatContents) (work : WorkContents)
    (outcome : CommitOutcome) : Type 0 where
  pub given : answers (CommitReply old.number work outcome)
  pub gains : Gains old new (commit_entries old.number work.id outcome)
  pub empty : outcome ≡ Empty ↔ work.count ≡ 0
  pub count : (n : ℕ) → outcome ≡ Committed n → n ≡ work.count
