use Rattle.std.proofs.Common.{length, sym, ap, ◌∙◌}
use Rattle.ocp_flight.proofs.Insides.{count}
use Rattle.ocp_flight.proofs.tape.Tape.len.Goals as goal

pub returns-clause-value : goal.returns-clause-value
returns-clause-value g c = c.len.ensures.len ∙ sym (count c.self.inside c.self.invariant) ∙ ap (λ t. length t.pieces) c.self.view_is
