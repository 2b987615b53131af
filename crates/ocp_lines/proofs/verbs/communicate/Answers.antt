use Rattle.std.proofs.Common.{arith}
use Rattle.ocp_lines.proofs.NumberLists.{octets_of_words}
use Rattle.ocp_lines.proofs.verbs.communicate.Goals as goal

pub returns-clause-fits : goal.returns-clause-fits
returns-clause-fits c profile = (tt, omega (arith, octets_of_words c.in_ok-words.words, c.in_ok-words.ensures.few))
