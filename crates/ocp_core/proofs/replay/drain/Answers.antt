use Rattle.std.proofs.Common.{sym, ap, subst}
use Rattle.ocp_world.specs.World.{Drain}
use Rattle.ocp_world.specs.After.{after, is_accepted}
use Rattle.ocp_world.specs.Mirror.Answering.{IsUndue}
use Rattle.ocp_world.specs.Mirror.State.{IsWorld}
use Rattle.ocp_core.proofs.Replaying.{memory_found, stands_after}
use Rattle.ocp_core.proofs.replay.drain.Goals as goal

pub report_due-result-requires : goal.report_due-result-requires
report_due-result-requires g c w by stands = subst (IsUndue (after w (Drain by c.args.time)).answer) c.if-is_due.true (c.is_due.ensures w by c.args.time stands)

pub returns-then-is_due : goal.returns-then-is_due
returns-then-is_due g c w by stands =
    stands_after c.refused_events_change_nothing.ensures w (Drain by c.args.time) c.report_due-result.new.self _ (memory_found c.report_due-result.result c.report_due-result.new.packets c.report_due-result.ensures.memory) (c.report_due-result.ensures.does w by stands)

pub returns-else-is_due : goal.returns-else-is_due
returns-else-is_due g c w by stands =
    let told = subst (IsUndue (after w (Drain by c.args.time)).answer) c.if-is_due.false (c.is_due.ensures w by c.args.time stands) in
    subst (λ v. IsWorld v c.args.state.now) (sym (c.refused_events_change_nothing.ensures w (Drain by c.args.time) (ap is_accepted told))) stands
