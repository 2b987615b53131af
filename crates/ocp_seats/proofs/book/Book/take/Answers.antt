use Rattle.std.proofs.Common.{sym, ◌∙◌}
use Rattle.ocp_seats.proofs.Takings.{takes_by}
use Rattle.ocp_seats.proofs.book.Book.take.Goals as goal

pub invariant_of-self : goal.invariant_of-self
invariant_of-self g c = c.self.invariant

pub returns-clause-ok : goal.returns-clause-ok
returns-clause-ok g c = takes_by _ _ c.in-Some.id c.unwrap-ticket.result c.self.view_is (c.in-Some.ensures {u = tt}).pick (sym (c.in-Ok.ensures {u = tt}) ∙ c.unwrap-ticket.ensures)
