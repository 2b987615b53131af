use Rattle.ocp_slices.proofs.Turning.{did, idle}
use Rattle.ocp_slices.proofs.shared.SharedEngine.turn_by.Goals as goal

pub returns-clause-turned : goal.returns-clause-turned
returns-clause-turned g c =
    c.put_back-outcome.ensures.turned c.args.budget
    (did g.B.Board.answers c.args.budget c.args.taken c.in-Ok.ticket c.run-work.result c.requires.given c.in-Ok.is c.run-work.ensures.id c.run-work.ensures.base c.run-work.ensures.count c.run-work.ensures.ran)

pub returns-in-Err-clause-turned : goal.returns-in-Err-clause-turned
returns-in-Err-clause-turned g c = idle g.B.Board.answers c.args.budget c.args.seat.now c.args.taken c.in-Err.fault c.turn_without.result c.requires.given c.in-Err.is c.turn_without.ensures
