use Rattle.std.proofs.Common.{ap, arith}
use Rattle.ocp_flight.specs.Flown.{held_count}
use Rattle.ocp_flight.proofs.Storing.{count_held}
use Rattle.ocp_flight.proofs.Entering.{kept_less}
use Rattle.ocp_flight.proofs.store.BoundedStore.release.Goals as goal

pub invariant_of-self : goal.invariant_of-self
invariant_of-self g c =
    let s = c.self.inside in
    kept_less s c.args.count c.release.new.self c.release.ensures c.self.invariant (omega (arith, c.held_count.ensures, count_held s c.self.invariant, ap held_count c.self.view_is)) (omega arith)
