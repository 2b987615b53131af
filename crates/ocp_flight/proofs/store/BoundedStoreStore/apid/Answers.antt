use Rattle.std.proofs.Common.{sym, ap, ◌∙◌}
use Rattle.ocp_flight.specs.Flown.{world_of}
use Rattle.ocp_flight.specs.Mirror.Kept.{flown_of}
use Rattle.ocp_flight.proofs.Worlds.{world_of-apid}
use Rattle.ocp_flight.proofs.store.BoundedStoreStore.apid.Goals as goal

pub returns-clause-value : goal.returns-clause-value
returns-clause-value g c = sym (world_of-apid (flown_of c.self.inside) ∙ c.self.invariant.same) ∙ ap (λ f. (world_of f).apid) c.self.view_is
