-- What no run of an image ever does.
use Rattle.std.specs.Prelude.{◌≡◌, ◌≢◌, ◌<◌, ℕ, ℤ, pos, List}
use Rattle.bpf_step.specs.declared.answer.MachineFault.{MachineFault}
use Rattle.bpf_step.specs.declared.answer.Need.TheVariants as need
use Rattle.bpf_step.specs.Machine.{State, Needs, read}
use Rattle.bpf_step.specs.Step.{one_step}
use Rattle.bpf_step.specs.Reach.{Reaches}

-- no machine of the image that is started with arguments, whatever they are and whatever the engine
-- answers, meets a fault of its own: an access outside, a write to its arguments, a call too deep
abbrev pub NeverFaults : List ℕ → Type 0
NeverFaults image =
    (s : State) (f : MachineFault) → Reaches image s → one_step image s ≢ Needs (need.Fault f)

-- each engine call but 4 and 5 has in R1 the index of a word of a pool of this many words
abbrev pub AsksWell : List ℕ → ℕ → Type 0
AsksWell image words =
    (s : State) (number : ℤ) → Reaches image s → one_step image s ≡ Needs (need.Call number) →
    number ≢ pos 4 → number ≢ pos 5 → read s 1 < words
