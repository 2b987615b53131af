use Rattle.std.proofs.Common.{refl, ap, arith}
use Rattle.ocp_flight.proofs.Entering.{kept_none}
use Rattle.ocp_flight.proofs.store.BoundedStore.new.Goals as goal

pub invariant_of-result : goal.invariant_of-result
invariant_of-result g c =
    kept_none _ (ap (λ t. t.pieces) c.in_ok-new.ensures) c.new-2.ensures.0 c.new-2.ensures.1 refl refl c.requires.apid (omega (arith, ap (λ t. t.most) c.in_ok-new.ensures, c.requires.entries))
