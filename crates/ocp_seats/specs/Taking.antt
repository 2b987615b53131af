-- What a book takes.
use Rattle.std.specs.Prelude.{◌≡◌, Some, None}
use Rattle.std.specs.FinMap.{get}
use Rattle.ocp_world.specs.NextRunning.{IsNextRunning}
use Rattle.ocp_core.specs.Log.{world_of}
use Rattle.ocp_core.specs.Tickets.{TicketContents, ticket_at}
use Rattle.ocp_seats.specs.declared.book.TakeFault.{TakeFault}
use Rattle.ocp_seats.specs.declared.book.TakeFault.TheVariants.{NoneRunning, Memory}
use Rattle.ocp_seats.specs.Seats.{BookContents}

-- the ticket is that of the running procedure whose turn is next after the one taken last, and this
-- procedure is now the one taken last
pub record Takes (old new : BookContents) (given : TicketContents) : Type 0 where
  pub next : IsNextRunning (world_of old.engine).records old.taken (Some given.id)
  pub ticket : ticket_at given.id (get (world_of old.engine).records given.id) ≡ Some given
  pub book : new ≡ record old { taken = Some given.id }

-- why nothing is taken; memory only if a procedure runs
abbrev pub RefusesTake : BookContents → TakeFault → Type 0
RefusesTake old NoneRunning = IsNextRunning (world_of old.engine).records old.taken None
RefusesTake old Memory = IsNextRunning (world_of old.engine).records old.taken None → ⊥
