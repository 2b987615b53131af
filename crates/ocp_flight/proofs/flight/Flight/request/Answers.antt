use Rattle.std.proofs.Common.{◌≡◌, subst}
use Rattle.std.specs.Prelude.{OnOk, OnErr}
use Rattle.ocp_world.specs.World.{Request}
use Rattle.ocp_world.specs.Answers.{Answers}
use Rattle.ocp_world.specs.Mirror.State.{with_packets}
use Rattle.ocp_flight.specs.Flown.{Flown}
use Rattle.ocp_flight.specs.Calls.{answer_in, flown_after}
use Rattle.ocp_flight.proofs.flight.Flight.request.Goals as goal

pub returns-clause-answer : goal.returns-clause-answer
returns-clause-answer g c = subst (λ (f : Flown). Answers (with_packets c.request.result c.request.new.packets) (answer_in f (Request c.args.by c.args.time c.args.octets.now))) c.self.view_is c.request.ensures.answer

pub returns-clause-log : goal.returns-clause-log
returns-clause-log g c = subst (λ (f : Flown). OnOk c.request.result (c.request.new.store ≡ flown_after f (Request c.args.by c.args.time c.args.octets.now))) c.self.view_is c.request.ensures.store

pub returns-clause-err : goal.returns-clause-err
returns-clause-err g c = subst (λ (f : Flown). OnErr c.request.result (c.request.new.store ≡ f)) c.self.view_is c.request.ensures.err

pub returns-clause-memory : goal.returns-clause-memory
returns-clause-memory g c = λ is. let refused = c.request.ensures.memory is in cc
