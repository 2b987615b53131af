use Rattle.std.proofs.Common.{◌≡◌, ◌+◌, Some, Option, sym, subst, ap, ◌∙◌}
use Rattle.std.specs.Prelude.{slice_get}
use Rattle.ocp_check.specs.declared.counting.Rank.{Rank}
use Rattle.ocp_check.specs.Mirror.Ranks.{value_of}
use Rattle.ocp_check.proofs.rounds.is_steady.Goals as goal

pub returns-in-Some : goal.returns-in-Some
returns-in-Some c = λ h old new same.
    let e : slice_get c.args.all.now.ranks.now c.args.place ≡ Some c.in-Some.rank = sym c.rank_at.ensures ∙ c.in-Some.is in
    subst (λ (o : Option Rank). value_of c.args.all.now.counters.now o new ≡ value_of c.args.all.now.counters.now o old) (sym e)
    (ap (λ n. c.in-Some.rank.base + n) (c.are_saved.ensures h old new same))
