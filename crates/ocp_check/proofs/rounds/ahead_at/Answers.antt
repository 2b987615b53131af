use Rattle.std.proofs.Common.{◌≡◌, Some, sym, ap, ◌∙◌, arith}
use Rattle.std.specs.Prelude.{slice_get}
use Rattle.ocp_check.proofs.Counted.{if_number}
use Rattle.ocp_check.proofs.Falls.{value_is}
use Rattle.ocp_check.proofs.rounds.ahead_at.Goals as goal

pub returns-in-Some-rank_at : goal.returns-in-Some-rank_at
returns-in-Some-rank_at c = if_number c.ahead_by.result _ _ (λ most h old t known p f moved.
    let e : slice_get c.args.all.now.ranks.now t.place ≡ Some c.in-Some-rank_at.rank = ap (slice_get c.args.all.now.ranks.now) p ∙ sym c.rank_at.ensures ∙ c.in-Some-rank_at.is in
    let value = value_is c.args.all.now.ranks.now c.args.all.now.counters.now t.place t.registers c.in-Some-rank_at.rank e in
    let after = h old t.registers known (c.in-Some.ensures.some t p f) moved in
    omega (arith, value, after)) c.ahead_by.ensures

pub returns-in-None : goal.returns-in-None
returns-in-None c = λ old t i e f m. absurd (c.in-None.ensures.none t e f)
