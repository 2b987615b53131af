use Rattle.std.proofs.Common.{drop, ap, ◌∙◌}
use Rattle.std.proofs.lemmas.List.{drop-drop}
use Rattle.ocp_flight.specs.Pieces.{TapeContents}
use Rattle.ocp_flight.proofs.tape.Tape.release.Goals as goal

pub loop-done-preserved : goal.loop-done-preserved
loop-done-preserved g c =
    c.pop.ensures
    ∙ ap (λ (t : TapeContents). record t { pieces = drop 1 t.pieces }) c.loop-done.invariant
    ∙ ap (λ ps. record c.args.self.now { pieces = ps }) (drop-drop 1 c.loop-done._done c.args.self.now.pieces)
