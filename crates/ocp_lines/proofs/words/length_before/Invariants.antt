use Rattle.std.proofs.Common.{◌≡◌, true, take}
use Rattle.ocp_lines.specs.Words.{is_free_of}
use Rattle.ocp_lines.proofs.words.length_before.Given as goal

abbrev pub invariant-loop-index : goal.invariant-loop-index
invariant-loop-index l = is_free_of l.end (take l.index l.text) ≡ true
