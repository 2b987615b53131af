-- What contracts see of a book and of a seat.
use Rattle.std.specs.Prelude.{◌≡◌, ◌<◌, ◌≤◌, ◌+◌, ℕ, false, List, [], ◌++◌, length, Option}
use Rattle.ocp_table.specs.declared.answers.Slice.{Slice}
use Rattle.ocp_world.specs.World.{Event}
use Rattle.ocp_world.specs.After.{Answer, is_accepted}
use Rattle.ocp_core.specs.declared.answers.CommitOutcome.{CommitOutcome}
use Rattle.ocp_core.specs.Log.{Log}
use Rattle.ocp_core.specs.Marks.{MarkedEntry}
use Rattle.ocp_core.specs.Receipts.{Enters, Grows, event_entries, slice_entries, commit_entries}
use Rattle.ocp_core.specs.Slice.{slice_in, slice_log}
use Rattle.ocp_core.specs.Tickets.{WorkContents}
use Rattle.ocp_core.specs.Commits.{Commits}
use Rattle.ocp_seats.specs.declared.seat.SeatFault.{SeatFault}
use Rattle.ocp_seats.specs.declared.seat.SeatFault.TheVariants as seat

-- the engine, the number of its entries at the start, the number of seats given out, the procedure
-- taken last by any seat, and how many entries came since the start
pub record BookContents : Type 0 where
  pub engine : Log
  pub start : ℕ
  pub seats : ℕ
  pub taken : Option ℕ
  pub count : ℕ

-- a seat's number, its receipts, and the amount of its share
pub record SeatContents : Type 0 where
  pub number : ℕ
  pub receipts : List MarkedEntry
  pub share : ℕ

-- A shared engine may begin with a blank of this name and these parts, which are 65. Its ledger has
-- both. It is named with the number of entries that the engine has room for, and with its journal.
pub record Opens (blank blank_parts ledger ledger_parts entries : ℕ) (start engine : Log)
    : Type 0 where
  pub name : blank ≡ ledger
  pub parts : blank_parts ≡ ledger_parts
  pub seats : blank_parts ≡ 65
  pub room : entries + length engine.entries ≡ engine.capacity
  pub log : start ≡ engine

-- the seat gained these receipts
pub record Gains (old new : SeatContents) (entries : List MarkedEntry) : Type 0 where
  pub number : new.number ≡ old.number
  pub receipts : new.receipts ≡ old.receipts ++ entries
  pub share : new.share ≡ old.share + length entries

-- the engine's journal gained these entries, and the book keeps all else
pub record GrowsBy (old new : BookContents) (entries : List MarkedEntry) : Type 0 where
  pub engine : Grows old.engine new.engine entries
  pub start : new.start ≡ old.start
  pub seats : new.seats ≡ old.seats
  pub taken : new.taken ≡ old.taken
  pub count : new.count ≡ old.count + length entries

-- An event that a seat asked for got this answer, which is the engine's. The journal and the seat's
-- receipts gained the entry of an accepted answer, and a refused event changed neither.
pub record Serves (old new : BookContents) (seat after : SeatContents) (e : Event)
    (answer : Answer) : Type 0 where
  pub enters : Enters old.engine new.engine e answer
  pub book : GrowsBy old new (event_entries e answer)
  pub gains : Gains seat after (event_entries e answer)
  pub refused : is_accepted answer ≡ false → (new ≡ old) × (after ≡ seat)

-- A slice of a procedure that a seat asked for got this answer, within its budget and as the engine
-- does it. The journal and the seat's receipts gained its entry, or none if it did nothing.
pub record ServesSlice (old new : BookContents) (seat after : SeatContents) (id budget : ℕ)
    (slice : Slice) : Type 0 where
  pub within : slice.count ≤ budget
  pub answer : slice ≡ slice_in old.engine seat.number id budget
  pub journal : new.engine ≡ slice_log old.engine seat.number id budget
  pub book : GrowsBy old new (slice_entries seat.number id slice)
  pub gains : Gains seat after (slice_entries seat.number id slice)

-- A work that a seat handed in had this outcome, as the engine commits it. The journal and the
-- seat's receipts gained the entry of a committed one.
pub record ServesWork (old new : BookContents) (seat after : SeatContents) (work : WorkContents)
    (outcome : CommitOutcome) : Type 0 where
  pub engine : Commits old.engine new.engine seat.number work outcome
  pub book : GrowsBy old new (commit_entries seat.number work.id outcome)
  pub gains : Gains seat after (commit_entries seat.number work.id outcome)

-- the book gave out its next seat
pub record HandsOut (old new : BookContents) (seat : SeatContents) : Type 0 where
  pub below : old.seats < 64
  pub engine : new.engine ≡ old.engine
  pub start : new.start ≡ old.start
  pub seats : new.seats ≡ old.seats + 1
  pub taken : new.taken ≡ old.taken
  pub count : new.count ≡ old.count
  pub number : seat.number ≡ old.seats + 1
  pub receipts : seat.receipts ≡ []
  pub share : seat.share ≡ 0

-- why no seat is given out; memory only if there is one
abbrev pub RefusesSeat : BookContents → SeatFault → Type 0
RefusesSeat old seat.SeatsFull = old.seats ≡ 64
RefusesSeat old seat.Memory = old.seats < 64
