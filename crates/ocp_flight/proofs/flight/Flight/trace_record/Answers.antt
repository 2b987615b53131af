use Rattle.ocp_flight.proofs.flight.Flight.trace_record.Goals as goal

pub returns : goal.returns
returns g c = rw (← c.self.view_is, ← c.self.invariant.ring) c.record.ensures
