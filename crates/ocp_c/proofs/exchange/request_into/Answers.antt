use Rattle.std.proofs.Common.{◌≤◌, length, sym, subst, arith}
use Rattle.std.proofs.lemmas.Bool.Decides.{nat_tests}
use Rattle.ocp_world.specs.World.{Request}
use Rattle.ocp_flight.specs.Flown.{Flown}
use Rattle.ocp_flight.specs.Calls.{answer_in}
use Rattle.ocp_c.specs.Replies.{reports_in}
use Rattle.ocp_c.proofs.Bounds.{request_fits, request_least}
use Rattle.ocp_c.proofs.exchange.request_into.Goals as goal

-- the reports have room
pub pour-requires : goal.pour-requires
pour-requires c =
    let fits = request_fits c.held.inside.engine c.bounds.ensures 0 c.args.time c.args.packet.now _ c.in_ok-request.ensures.answer in
    let few : length c.octets.result.now ≤ 272 = subst (λ octets. length octets ≤ 272) (sym c.octets.ensures) fits in
    grind (arith, nat_tests, few, c.if-reports-lt272.false)

pub returns-then-reports-lt272-clause-least : goal.returns-then-reports-lt272-clause-least
returns-then-reports-lt272-clause-least c = subst (λ (f : Flown). length (reports_in (answer_in f (Request 0 c.args.time c.args.packet.now))) ≤ 272) c.held.view_is (request_least c.held.inside.engine c.bounds.ensures 0 c.args.time c.args.packet.now)

pub returns-clause-least : goal.returns-clause-least
returns-clause-least c = subst (λ (f : Flown). length (reports_in (answer_in f (Request 0 c.args.time c.args.packet.now))) ≤ 272) c.held.view_is (request_least c.held.inside.engine c.bounds.ensures 0 c.args.time c.args.packet.now)
