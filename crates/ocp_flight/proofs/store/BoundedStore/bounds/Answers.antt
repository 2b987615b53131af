use Rattle.std.proofs.Common.{subst}
use Rattle.ocp_flight.specs.Bounded.{IsBounded}
use Rattle.ocp_flight.specs.Flown.{Flown}
use Rattle.ocp_flight.proofs.store.BoundedStore.bounds.Goals as goal

pub returns : goal.returns
returns g c = subst (λ (f : Flown). IsBounded f.base) c.self.view_is c.self.invariant.based
