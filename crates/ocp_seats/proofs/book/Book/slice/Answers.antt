use Rattle.std.proofs.Common.{arith}
use Rattle.std.proofs.lemmas.Grind.{common_steps}
use Rattle.ocp_seats.proofs.Going.{grown, entry_of_some, entry_of_none}
use Rattle.ocp_seats.proofs.book.Book.slice.Goals as goal

pub returns-then-slice-ne0 : goal.returns-then-slice-ne0
returns-then-slice-ne0 g c = grind (arith, common_steps)

pub gain-requires : goal.gain-requires
gain-requires g c =
    let (long, capacity, _, _, _, _, on) = c.self.invariant in
    let more = grown _ _ _ _ _ _ _ long capacity on c.slice-slice.ensures.gain in
    omega (arith, more.0, more.1, entry_of_some c.seat.inside.number c.args.id c.slice-slice.result c.if-slice-ne0.true)

pub invariant_of-self : goal.invariant_of-self
invariant_of-self g c =
    let (long, capacity, parts, amount, most, start, on) = c.self.invariant in
    let more = grown _ _ _ _ _ _ _ long capacity on c.slice-slice.ensures.gain in
    (omega (arith, more.0, c.gain.ensures.tally, entry_of_some c.seat.inside.number c.args.id c.slice-slice.result c.if-slice-ne0.true), more.1, parts, amount, most, start, more.2)

pub invariant_of-self-else-slice-ne0 : goal.invariant_of-self-else-slice-ne0
invariant_of-self-else-slice-ne0 g c =
    let (long, capacity, parts, amount, most, start, on) = c.self.invariant in
    let more = grown _ _ _ _ _ _ _ long capacity on c.slice-slice.ensures.gain in
    (omega (arith, more.0, entry_of_none c.seat.inside.number c.args.id c.slice-slice.result c.if-slice-ne0.false), more.1, parts, amount, most, start, more.2)
