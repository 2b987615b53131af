use Rattle.std.proofs.Common.{◌≤◌, length, sym, subst, arith}
use Rattle.std.proofs.lemmas.Bool.Decides.{nat_tests}
use Rattle.ocp_world.specs.World.{Drain}
use Rattle.ocp_flight.specs.Flown.{Flown}
use Rattle.ocp_flight.specs.Calls.{answer_in}
use Rattle.ocp_c.specs.Replies.{reports_in}
use Rattle.ocp_c.proofs.Bounds.{drain_fits, drain_least}
use Rattle.ocp_c.proofs.exchange.drain_into.Goals as goal

-- the reports have room
pub pour-requires : goal.pour-requires
pour-requires c =
    let fits = drain_fits c.held.inside.engine c.bounds.ensures 0 c.args.time _ c.in_ok-drain.ensures.answer in
    let few : length c.octets.result.now ≤ 1600 = subst (λ octets. length octets ≤ 1600) (sym c.octets.ensures) fits in
    grind (arith, nat_tests, few, c.if-reports-lt1600.false)

pub returns-then-reports-lt1600-clause-least : goal.returns-then-reports-lt1600-clause-least
returns-then-reports-lt1600-clause-least c = subst (λ (f : Flown). length (reports_in (answer_in f (Drain 0 c.args.time))) ≤ 1600) c.held.view_is (drain_least c.held.inside.engine c.bounds.ensures 0 c.args.time)

pub returns-clause-least : goal.returns-clause-least
returns-clause-least c = subst (λ (f : Flown). length (reports_in (answer_in f (Drain 0 c.args.time))) ≤ 1600) c.held.view_is (drain_least c.held.inside.engine c.bounds.ensures 0 c.args.time)
