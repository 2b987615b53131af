use Rattle.std.proofs.Common.{arith, subst}
use Rattle.std.proofs.lemmas.Grind.{common_steps}
use Rattle.ocp_core.specs.Receipts.{Grows, commit_entries}
use Rattle.ocp_seats.proofs.Going.{grown, no_entry}
use Rattle.ocp_seats.proofs.book.Book.hand_in.Goals as goal

pub returns-in-Committed-clause-served : goal.returns-in-Committed-clause-served
returns-in-Committed-clause-served g c = grind (arith, common_steps)

pub gain-requires : goal.gain-requires
gain-requires g c =
    let (long, capacity, _, _, _, _, on) = c.self.invariant in
    let more = grown _ _ _ _ _ _ _ long capacity on (subst (λ o. Grows c.self.inside.engine c.hand_in-outcome.new.self (commit_entries c.seat.inside.number c.args.work.now.id o)) c.in-Committed.is c.hand_in-outcome.ensures.gain) in
    omega (arith, more.0, more.1)

pub invariant_of-self : goal.invariant_of-self
invariant_of-self g c =
    let (long, capacity, parts, amount, most, start, on) = c.self.invariant in
    let more = grown _ _ _ _ _ _ _ long capacity on (subst (λ o. Grows c.self.inside.engine c.hand_in-outcome.new.self (commit_entries c.seat.inside.number c.args.work.now.id o)) c.in-Committed.is c.hand_in-outcome.ensures.gain) in
    (omega (arith, more.0, c.gain.ensures.tally), more.1, parts, amount, most, start, more.2)

pub invariant_of-self-in_default : goal.invariant_of-self-in_default
invariant_of-self-in_default g c =
    let (long, capacity, parts, amount, most, start, on) = c.self.invariant in
    let more = grown _ _ _ _ _ _ _ long capacity on c.hand_in-outcome.ensures.gain in
    (omega (arith, more.0, no_entry c.seat.inside.number c.args.work.now.id c.hand_in-outcome.result c.in_default.not-Committed), more.1, parts, amount, most, start, more.2)
