use Rattle.std.proofs.Common.{◌≡◌, ◌+◌, length, true, ap, ◌∙◌}
use Rattle.std.specs.Prelude.{◌%◌}
use Rattle.std.proofs.lemmas.Result.{err_from_is_err_and}
use Rattle.ocp_reports.specs.Due.{drain_dispatches}
use Rattle.ocp_reports.specs.Packets.{packets}
use Rattle.ocp_world.specs.World.{Drain}
use Rattle.ocp_world.specs.After.{after, is_accepted}
use Rattle.ocp_world.proofs.Sending.{drained_all}
use Rattle.ocp_world.proofs.state.State.report_due.Goals as goal

pub returns-in_err-kept-clause-does : goal.returns-in_err-kept-clause-does
returns-in_err-kept-clause-does g c w by stands =
    let p = err_from_is_err_and c.from_residual.result c.from_residual.ensures.1 in
    rw (p.1, p.2) (c.requires w by stands, stands)

pub returns-clause-does : goal.returns-clause-does
returns-clause-does g c w by stands =
    let sender = c.args.self.now.sender in
    let written = c.write_drained.new.out in
    let accepted : is_accepted (after w (Drain by c.args.time)).answer ≡ true = c.requires w by stands in
    let are : written ≡ packets sender.apid sender.count (drain_dispatches c.args.time c.args.self.now.table.outbox) =
    c.write_drained.ensures ∙ ap (λ due. packets sender.apid sender.count (drain_dispatches c.args.time due)) c.outbox.ensures.value in
    let count : c.count_after-self.result ≡ (sender.count + length written) % 16384 = c.count_after-self.ensures ∙ ap (λ n. (sender.count + n) % 16384) c.len.ensures in
    drained_all w c.args.time c.args.self.now stands accepted c.drain.new.self (ap (λ t. t.profile) c.drain.ensures) (ap (λ t. t.records) c.drain.ensures) (ap (λ t. t.outbox) c.drain.ensures) written are c.count_after-self.result count
