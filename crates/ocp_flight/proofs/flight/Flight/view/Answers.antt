use Rattle.ocp_flight.proofs.flight.Flight.view.Goals as goal

pub returns : goal.returns
returns g c = rw (← c.self.view_is, ← c.self.invariant.records) c.view.ensures
