use Rattle.std.proofs.Common.{◌<◌}
use Rattle.bpf_step.specs.Machine.{State}
use Rattle.bpf_step.specs.Step.{one_step}
use Rattle.ocp_check.specs.Mirror.Fits.{Fits, FitsAfter}
use Rattle.ocp_check.specs.Mirror.Ranks.{AreSteady, Falls}
use Rattle.ocp_check.proofs.rounds.check_rounds.Given as goal

abbrev pub invariant-loop-slot : goal.invariant-loop-slot
invariant-loop-slot g l = (s : State) → s.place < l.slot → Fits l.certificate s → AreSteady l.ranks l.counters s.frames → FitsAfter l.certificate s (one_step l.program s) → Falls l.ranks l.counters l.most s (one_step l.program s)
