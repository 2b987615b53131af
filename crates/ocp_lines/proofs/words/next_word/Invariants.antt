use Rattle.std.proofs.Common.{◌≡◌, length}
use Rattle.ocp_lines.specs.Words.{words_of}
use Rattle.ocp_lines.proofs.words.next_word.Given as goal

abbrev pub invariant-loop-rest : goal.invariant-loop-rest
invariant-loop-rest l = words_of l.text ≡ words_of l.rest

abbrev pub decreases-loop-rest : goal.decreases-loop-rest
decreases-loop-rest l = length l.rest
