use Rattle.std.proofs.Common.{◌≡◌, map, sym, ap, subst, ◌∙◌}
use Rattle.std.specs.FinMap.{entries}
use Rattle.std.specs.List.Sorted.{IsStrictlyIncreasing}
use Rattle.ocp_table.specs.Shown.{row_of}
use Rattle.ocp_world.specs.NextRunning.{IsNextRunning}
use Rattle.ocp_world.specs.Mirror.Turns.{next_in}
use Rattle.ocp_world.proofs.NextRunning.{is_next, next_runs, none_next}
use Rattle.ocp_world.proofs.state.State.next_running.Goals as goal

pub returns-clause-pick : goal.returns-clause-pick
returns-clause-pick g c w stands =
    let m = c.args.self.now.table.records in
    let before = c.args.before in
    let rising = subst (λ rows. IsStrictlyIncreasing (map (λ row. row.id) rows)) c.statuses-rows.ensures.value c.statuses-rows.ensures.rising in
    let rows : c.as_slice.result.now ≡ map row_of (entries m) = c.as_slice.ensures.value ∙ c.statuses-rows.ensures.value in
    let next : c.next_of.result ≡ next_in before (map row_of (entries m)) = c.next_of.ensures ∙ ap (next_in before) rows in
    subst (λ records. IsNextRunning records before c.next_of.result) stands.records
    (subst (IsNextRunning m before) (sym next) (is_next m rising before))

pub returns-clause-runs : goal.returns-clause-runs
returns-clause-runs g c w stands = next_runs w.records c.args.before c.next_of.result (returns-clause-pick g c w stands)

pub returns-clause-none : goal.returns-clause-none
returns-clause-none g c w stands = none_next w.records c.args.before c.next_of.result (returns-clause-pick g c w stands)
