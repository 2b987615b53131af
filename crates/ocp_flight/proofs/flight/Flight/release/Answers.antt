use Rattle.std.proofs.Common.{sym, subst, ap, ◌∙◌}
use Rattle.ocp_world.specs.World.{World}
use Rattle.ocp_world.specs.Mirror.State.{IsWorld}
use Rattle.ocp_flight.specs.Flown.{world_of}
use Rattle.ocp_flight.proofs.Storing.{released_world}
use Rattle.ocp_flight.proofs.flight.Flight.release.Goals as goal

pub invariant_of-self : goal.invariant_of-self
invariant_of-self g c = subst (λ (w : World). IsWorld w c.self.inside.state) (sym (ap world_of c.release.ensures.store ∙ released_world c.self.inside.store c.args.count)) c.self.invariant
