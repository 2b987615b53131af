use Rattle.std.proofs.Common.{ap, ◌∙◌}
use Rattle.ocp_flight.specs.Flown.{first}
use Rattle.ocp_flight.proofs.Reading.{first_is}
use Rattle.ocp_flight.proofs.store.BoundedStore.first.Goals as goal

pub returns : goal.returns
returns g c = first_is c.self.inside c.self.invariant ∙ ap first c.self.view_is
