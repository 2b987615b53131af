use Rattle.std.proofs.Common.{arith, subst}
use Rattle.std.proofs.lemmas.Grind.{common_steps}
use Rattle.ocp_core.specs.Receipts.{Grows, entries_in}
use Rattle.ocp_seats.proofs.Going.{grown}
use Rattle.ocp_seats.proofs.book.Book.apply.Goals as goal

pub returns-in-Some : goal.returns-in-Some
returns-in-Some g c = grind (arith, common_steps)

pub returns-in_default : goal.returns-in_default
returns-in_default g c = grind (arith, common_steps)

pub gain-requires : goal.gain-requires
gain-requires g c =
    let (long, capacity, _, _, _, _, on) = c.self.invariant in
    let more = grown _ _ _ _ _ _ _ long capacity on (subst (λ o. Grows c.self.inside.engine c.apply-answer.new.self (entries_in o)) c.in-Some.is c.apply-answer.ensures.gain) in
    omega (arith, more.0, more.1)

pub invariant_of-self : goal.invariant_of-self
invariant_of-self g c =
    let (long, capacity, parts, amount, most, start, on) = c.self.invariant in
    let more = grown _ _ _ _ _ _ _ long capacity on (subst (λ o. Grows c.self.inside.engine c.apply-answer.new.self (entries_in o)) c.in-Some.is c.apply-answer.ensures.gain) in
    (omega (arith, more.0, c.gain.ensures.tally), more.1, parts, amount, most, start, more.2)

pub invariant_of-self-in_default : goal.invariant_of-self-in_default
invariant_of-self-in_default g c =
    let (long, capacity, parts, amount, most, start, on) = c.self.invariant in
    let more = grown _ _ _ _ _ _ _ long capacity on (subst (λ o. Grows c.self.inside.engine c.apply-answer.new.self (entries_in o)) c.in_default.is c.apply-answer.ensures.gain) in
    (omega (arith, more.0), more.1, parts, amount, most, start, more.2)
