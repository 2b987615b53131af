use Rattle.std.proofs.Common.{◌≤◌, length, sym, ap, ◌∙◌, arith}
use Rattle.std.proofs.lemmas.List.{take_all}
use Rattle.ocp_world.specs.Mirror.Turns.{first_from}
use Rattle.ocp_world.proofs.NextRunning.{passed, ended}
use Rattle.ocp_world.proofs.turns.first_running.Goals as goal

pub returns-then-runs_from : goal.returns-then-runs_from
returns-then-runs_from c = ended c.args.from c.args.rows.now c.loop-row.row-index _ c.loop-row-test.true c.loop-row.invariant (sym c.runs_from.ensures ∙ c.if-runs_from.true)

pub loop-row-preserved : goal.loop-row-preserved
loop-row-preserved c = passed c.args.from c.args.rows.now c.loop-row.row-index _ c.loop-row-test.true c.loop-row.invariant (sym c.runs_from.ensures ∙ c.if-runs_from.false)

pub returns : goal.returns
returns c =
    let all : length c.args.rows.now ≤ c.loop-row.row-index = omega arith in
    sym c.loop-row.invariant ∙ ap (first_from c.args.from) (take_all c.loop-row.row-index c.args.rows.now all)
