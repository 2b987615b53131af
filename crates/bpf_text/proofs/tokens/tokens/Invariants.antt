use Rattle.std.proofs.Common.{◌-◌, length}
use Rattle.bpf_text.proofs.TokenLists.{SoFar, texts}
use Rattle.bpf_text.proofs.tokens.tokens.Given as goal

abbrev pub invariant-loop-found : goal.invariant-loop-found
invariant-loop-found l = SoFar l.line l.rest (texts l.found.items)

abbrev pub decreases-loop-found : goal.decreases-loop-found
decreases-loop-found l = 9 - length l.found.items
