use Rattle.std.proofs.Common.{rules, ◌≡◌}
use Rattle.ocp_c.specs.Statuses.{number_of}
use Rattle.ocp_c.proofs.handle.Handle.answer.Goals as goal

pub returns-clause-open : goal.returns-clause-open
returns-clause-open g c = λ flown h.
    let e = c.with_engine-answer.ensures.open flown h in
    let is = e.3 in
    let number : c.number.result ≡ number_of e.0 = search (rules, is, c) in
    (e.0, e.1, e.2, number, e.4)
