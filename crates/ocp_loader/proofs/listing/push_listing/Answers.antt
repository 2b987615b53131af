use Rattle.std.proofs.Common.{rules, arith, ◌≡◌, ap, length, length-append, Some}
use Rattle.ocp_loader.specs.LineAt.{line_of}
use Rattle.ocp_loader.specs.Mirror.Listed.{text_below}
use Rattle.ocp_loader.proofs.Listed.{room_for}
use Rattle.ocp_loader.proofs.listing.push_listing.Goals as goal

pub push_line-requires : goal.push_line-requires
push_line-requires g c =
    let image = c.args.program.now in
    let is : line_of image c.loop-slot.slot ≡ Some c.in-Some.line = search rules in
    let room = room_for image c.loop-slot.slot c.args.slots c.in-Some.line is (search rules) in
    omega (arith, room, c.requires, c.loop-slot.invariant.1, ap length c.loop-slot.invariant.0, length-append c.args.out.now.items (text_below image c.loop-slot.slot))
