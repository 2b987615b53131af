use Rattle.std.proofs.Common.{refl}
use Rattle.ocp_flight.proofs.Worlds.{IsWorld-begun}
use Rattle.ocp_flight.proofs.flight.Flight.new.Goals as goal

pub invariant_of-result : goal.invariant_of-result
invariant_of-result g c = IsWorld-begun _ _ _ c.in_ok-store.ensures refl c.in_ok-state.ensures
