use Rattle.std.proofs.Common.{subst}
use Rattle.memchr.specs.Find.{IsFirstByte, is_byte}
use Rattle.ocp_lines.proofs.WordLemmas.{first_at, none_at}
use Rattle.ocp_lines.proofs.words.length_before.Goals as goal

pub returns-in-Some-clause-free : goal.returns-in-Some-clause-free
returns-in-Some-clause-free c =
    (first_at c.args.end c.args.text.now c.in-Some.length (subst (λ r. IsFirstByte (is_byte c.args.end) c.args.text.now r) c.in-Some.is c.memchr.ensures)).1

pub returns-in-None-clause-free : goal.returns-in-None-clause-free
returns-in-None-clause-free c =
    none_at c.args.end c.args.text.now (subst (λ r. IsFirstByte (is_byte c.args.end) c.args.text.now r) c.in-None.is c.memchr.ensures)
