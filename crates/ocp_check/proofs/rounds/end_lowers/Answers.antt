use Rattle.std.proofs.Common.{◌<◌, inl, inr, subst, sym}
use Rattle.ocp_check.specs.Mirror.Ranks.{value_at}
use Rattle.ocp_check.proofs.Falls.{falls_exit}
use Rattle.ocp_check.proofs.rounds.end_lowers.Goals as goal

pub returns-then-depth-eq0 : goal.returns-then-depth-eq0
returns-then-depth-eq0 c = λ h s counters most e alone n a. falls_exit c.args.ranks.now counters most s (inl (alone c.if-depth-eq0.true)) n a

pub returns-else-depth-eq0 : goal.returns-else-depth-eq0
returns-else-depth-eq0 c = λ h s counters most e alone n a.
    falls_exit c.args.ranks.now counters most s (inr (subst (λ p. 0 < value_at c.args.ranks.now counters p s.registers) (sym e) (c.is_over_zero.ensures h counters s.registers))) n a
