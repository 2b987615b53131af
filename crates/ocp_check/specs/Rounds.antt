-- How many instructions follow one another before a step ends.
use Rattle.std.specs.Prelude.{◌≡◌, ◌≢◌, ◌<◌, ℕ, ◌+◌, ℤ, pos, List, Option}
use Rattle.bpf_step.specs.declared.answer.Need.TheVariants as need
use Rattle.bpf_step.specs.Machine.{State, Next, Needs}
use Rattle.bpf_step.specs.Calls.{state_after_engine_call}
use Rattle.bpf_step.specs.Step.{one_step}
use Rattle.bpf_step.specs.Reach.{Reaches}
use Rattle.bpf_step.specs.Answers.{IsAnswer}

-- n instructions, none of which ends a step (engine call 5), lead from a machine to another
pub data Round : List ℕ → ℕ → State → State → Type 0 where
  Here : (image : List ℕ) (s : State) → Round image 0 s s
  Further : (image : List ℕ) (n : ℕ) (s t u : State) → Round image n s t →
      one_step image t ≡ Next u → Round image (n + 1) s u
  Called : (image : List ℕ) (n : ℕ) (s t : State) (number : ℤ) (r0 : ℕ) (r1 : Option ℕ) →
      Round image n s t → one_step image t ≡ Needs (need.Call number) → number ≢ pos 5 →
      IsAnswer number r0 r1 →
      Round image (n + 1) s (state_after_engine_call t r0 r1)

-- from any machine that can come about there are fewer: with the instruction that ends the step or
-- the procedure, a round has at most this many
abbrev pub IsWithin : List ℕ → ℕ → Type 0
IsWithin image most =
    (s t : State) (n : ℕ) → Reaches image s → Round image n s t → n < most
