use Rattle.ocp_saved.proofs.Canonical.{number_is, words_are}
use Rattle.ocp_saved.proofs.laws.numbers_are_their_octets.Goals as goal

pub returns-clause-numbers : goal.returns-clause-numbers
returns-clause-numbers c = number_is

pub returns-clause-words : goal.returns-clause-words
returns-clause-words c = words_are
