use Rattle.ocp_core.proofs.engine.Engine.pool_word.Goals as goal

pub returns : goal.returns
returns g c = rw (← c.self.view_is, ← c.self.invariant.pool) c.get.ensures
