use Rattle.ocp_core.proofs.engine.Engine.trace_lines.Goals as goal

pub returns : goal.returns
returns g c = rw (← c.self.view_is, ← c.self.invariant.ring) c.write_lines.ensures
