use Rattle.ocp_table.specs.Shown.{id_of}
use Rattle.ocp_table.proofs.ContentsLemmas.{IsLeft}
use Rattle.ocp_table.proofs.slots.find_at.Given as goal

abbrev pub invariant-loop-key : goal.invariant-loop-key
invariant-loop-key g l = IsLeft id_of l.records l.id l.key-iterator
