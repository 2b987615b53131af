use Rattle.ocp_flight.proofs.flight.Flight.memory.Goals as goal

pub returns : goal.returns
returns g c = rw (← c.self.view_is, ← c.self.invariant.records) c.memory.ensures
