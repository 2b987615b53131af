use Rattle.ocp_seats.proofs.Takings.{takes_by}
use Rattle.ocp_seats.proofs.book.Book.take_into.Goals as goal

pub invariant_of-self : goal.invariant_of-self
invariant_of-self g c = c.self.invariant

pub returns-then-not-ticket_into-clause-ok : goal.returns-then-not-ticket_into-clause-ok
returns-then-not-ticket_into-clause-ok g c = (c.in_ok-ticket.ensures {u = tt}).ok

pub returns-clause-ok : goal.returns-clause-ok
returns-clause-ok g c = takes_by _ _ c.in-Some.next c.ticket_into.new.ticket c.self.view_is (c.in-Some.ensures {u = tt}).pick (c.ticket_into.ensures.taken c.if-not-ticket_into.false)
