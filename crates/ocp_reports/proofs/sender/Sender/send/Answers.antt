use Rattle.std.proofs.Common.{◌≡◌, ap, arith}
use Rattle.ocp_reports.specs.Room.{most_octets}
use Rattle.ocp_reports.proofs.Packets.{short}
use Rattle.ocp_reports.proofs.sender.Sender.send.Goals as goal

pub add-requires-in-Some : goal.add-requires-in-Some
add-requires-in-Some g c is =
    let size = short c.in-Some.report is in
    let most : most_octets c.args.notice ≡ 68 = ap most_octets c.in-Answer.is in
    let room = c.requires.room in
    record { few = c.requires.few; room = omega (arith, size, most, room) }
