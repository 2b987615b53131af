use Rattle.std.proofs.Common.{sym, ap, ◌∙◌}
use Rattle.ocp_flight.specs.Flown.{held_count}
use Rattle.ocp_flight.proofs.Storing.{count_held}
use Rattle.ocp_flight.proofs.store.BoundedStore.held_count.Goals as goal

pub returns : goal.returns
returns g c = c.len.ensures.value ∙ sym (count_held c.self.inside c.self.invariant) ∙ ap held_count c.self.view_is
