use Rattle.std.proofs.Common.{◌≡◌, ◌≢◌, ◌<◌, ℤ, pos}
use Rattle.bpf_step.specs.declared.answer.Need.TheVariants as need
use Rattle.bpf_step.specs.Machine.{State, Needs, read}
use Rattle.bpf_step.specs.Step.{one_step}
use Rattle.ocp_check.specs.Mirror.Fits.{Fits}
use Rattle.ocp_check.proofs.asks.check_pool.Given as goal

abbrev pub invariant-loop-slot : goal.invariant-loop-slot
invariant-loop-slot g l = (s : State) (number : ℤ) → s.place < l.slot → Fits l.certificate s → one_step l.program s ≡ Needs (need.Call number) → number ≢ pos 4 → number ≢ pos 5 → read s 1 < l.words
