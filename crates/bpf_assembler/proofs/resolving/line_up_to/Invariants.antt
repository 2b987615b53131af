use Rattle.std.proofs.Common.{map, take}
use Rattle.bpf_assembler.specs.Mirror.Passes.{IsLineUpTo, entry}
use Rattle.bpf_assembler.proofs.resolving.line_up_to.Given as goal

abbrev pub invariant-loop-row : goal.invariant-loop-row
invariant-loop-row l = IsLineUpTo (map entry (take l.row-index l.rows)) l.slot l.number
