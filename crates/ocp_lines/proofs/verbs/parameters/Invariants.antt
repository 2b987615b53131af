use Rattle.std.proofs.Common.{◌≡◌, length}
use Rattle.ocp_lines.specs.Words.{words_of}
use Rattle.ocp_lines.specs.Grammar.{numbers}
use Rattle.ocp_lines.proofs.NumberLists.{behind}
use Rattle.ocp_lines.proofs.verbs.parameters.Given as goal

abbrev pub invariant-loop-word : goal.invariant-loop-word
invariant-loop-word l = numbers (words_of l.text) ≡ behind l.numbers.items (numbers (words_of l.rest))

abbrev pub decreases-loop-word : goal.decreases-loop-word
decreases-loop-word l = length (words_of l.rest)
