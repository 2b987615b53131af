use Rattle.ocp_core.proofs.engine.Engine.view.Goals as goal

pub returns : goal.returns
returns g c = rw (← c.self.view_is, ← c.self.invariant.records) c.view.ensures
