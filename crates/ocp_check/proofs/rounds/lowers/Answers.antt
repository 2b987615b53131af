use Rattle.std.proofs.Common.{◌≡◌, ◌<◌, Some, sym, ap, ◌∙◌, arith}
use Rattle.std.specs.Prelude.{slice_get}
use Rattle.std.proofs.lemmas.Bool.Decides.{nat_tests}
use Rattle.ocp_check.proofs.Falls.{value_is}
use Rattle.ocp_check.proofs.rounds.lowers.Goals as goal

pub returns-in-Some-ahead_at : goal.returns-in-Some-ahead_at
returns-in-Some-ahead_at c = λ h s t e i p f moved.
    let here : slice_get c.args.all.now.ranks.now s.place ≡ Some c.in-Some.here = ap (slice_get c.args.all.now.ranks.now) (e ∙ sym c.from.ensures) ∙ sym c.rank_at.ensures ∙ c.in-Some.is in
    let value = value_is c.args.all.now.ranks.now c.args.all.now.counters.now s.place s.registers c.in-Some.here here in
    let after = c.in-Some-ahead_at.ensures s.registers t i.registers p f moved in
    let less : c.in-Some-ahead_at.most < c.in-Some.here.base = grind (arith, nat_tests, h) in
    omega (arith, value, after, less)
