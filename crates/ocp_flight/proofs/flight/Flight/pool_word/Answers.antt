use Rattle.ocp_flight.proofs.flight.Flight.pool_word.Goals as goal

pub returns : goal.returns
returns g c = rw (← c.self.view_is, ← c.self.invariant.pool) c.get.ensures
