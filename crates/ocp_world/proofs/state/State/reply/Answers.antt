use Rattle.std.proofs.Common.{◌≡◌, ◌+◌, length, Ok, ap, ◌∙◌}
use Rattle.std.specs.Prelude.{◌%◌}
use Rattle.std.specs.Option.{option_to_list}
use Rattle.ocp_reports.specs.Reports.{reports_of}
use Rattle.ocp_reports.specs.Packets.{packets}
use Rattle.ocp_world.specs.After.{Requested}
use Rattle.ocp_world.proofs.Sending.{sent_reports, IsWorld-sent}
use Rattle.ocp_world.proofs.state.State.reply.Goals as goal

pub returns-clause-does : goal.returns-clause-does
returns-clause-does g c w stands =
    let sender = c.args.self.now.sender in
    let written = c.write_reports.new.out in
    let dispatches = reports_of c.args.origin c.args.outcome (option_to_list c.args.answer.now) in
    let are : written ≡ packets sender.apid sender.count dispatches = c.write_reports.ensures in
    let count : c.count_after-self.result ≡ (sender.count + length written) % 16384 = c.count_after-self.ensures ∙ ap (λ n. (sender.count + n) % 16384) c.len.ensures in (
      ap (λ reports. Requested (Ok reports)) (sent_reports w c.args.self.now dispatches written stands are),
      IsWorld-sent w c.args.self.now dispatches written stands are c.count_after-self.result count,
    )
