use Rattle.std.proofs.Common.{◌≡◌, ◌<◌, Some, sym, ap, ◌∙◌, arith}
use Rattle.std.specs.Prelude.{slice_get}
use Rattle.std.proofs.lemmas.Bool.Decides.{nat_tests}
use Rattle.ocp_check.proofs.Falls.{value_is}
use Rattle.ocp_check.proofs.rounds.is_over_zero.Goals as goal

pub returns-in-Some : goal.returns-in-Some
returns-in-Some c = λ h counters registers.
    let e : slice_get c.args.ranks.now c.args.slot ≡ Some c.in-Some.here = ap (slice_get c.args.ranks.now) (sym c.from.ensures) ∙ sym c.rank_at.ensures ∙ c.in-Some.is in
    let b : 0 < c.in-Some.here.base = grind (arith, nat_tests) in
    omega (arith, b, value_is c.args.ranks.now counters c.args.slot registers c.in-Some.here e)
