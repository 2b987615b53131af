use Rattle.std.proofs.Common.{◌≡◌, drop}
use Rattle.ocp_flight.proofs.tape.Tape.release.Given as goal

abbrev pub invariant-loop-done : goal.invariant-loop-done
invariant-loop-done g l = l.self ≡ record l.fn.self { pieces = drop l._done l.fn.self.pieces }
