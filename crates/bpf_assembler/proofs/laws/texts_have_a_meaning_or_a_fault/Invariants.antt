use Rattle.std.proofs.Common.{◌⊎◌, length}
use Rattle.bpf_assembler.proofs.Progress.{Progress}
use Rattle.bpf_assembler.proofs.Totality.{SomeLineFault}
use Rattle.bpf_assembler.proofs.laws.texts_have_a_meaning_or_a_fault.Given as goal

abbrev pub invariant-loop-rest : goal.invariant-loop-rest
invariant-loop-rest l = Progress l.text l.rest ⊎ SomeLineFault l.text

abbrev pub decreases-loop-rest : goal.decreases-loop-rest
decreases-loop-rest l = length l.rest
