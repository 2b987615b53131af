-- What ranks say of an image.
use Rattle.std.specs.Prelude.{◌≡◌, ◌<◌, ◌⊎◌, ℕ, zero, suc, ◌+◌, ◌-◌, ◌*◌, ◌%◌, ◌^◌, pos, Bool, true, false, if◌then◌else◌, List, [], ◌∷◌, slice_get, slice_index, slice_index_or, Option, Some, None}
use Rattle.bpf_step.specs.declared.frame.Frame.{Frame}
use Rattle.bpf_step.specs.declared.answer.Need.TheVariants as need
use Rattle.bpf_step.specs.Machine.{State, Outcome, Next, Needs}
use Rattle.bpf_step.specs.Calls.{state_after_engine_call}
use Rattle.bpf_step.specs.Answers.{IsAnswer}
use Rattle.ocp_check.specs.declared.counting.Counter.{Counter}
use Rattle.ocp_check.specs.declared.counting.Rank.{Rank}
use Rattle.ocp_check.specs.declared.counting.Step.{Step}
use Rattle.ocp_check.specs.declared.counting.Step.TheVariants.{Kept, By, Anywhere}

-- how far a register is from the limit of a counter
abbrev pub way_of : Counter → ℕ → ℕ
way_of c v = if c.rises then c.limit - v else v - c.limit

-- what a counter adds if it counts
abbrev pub share : Counter → Bool → ℕ → ℕ
share c false v = 0
share c true v = c.weight * way_of c v

abbrev pub share_of : Option Counter → Bool → List ℕ → ℕ
share_of None counts registers = 0
share_of (Some c) counts registers = share c counts (slice_index registers c.register)

-- what the first n counters add, of those that count
abbrev pub total_share : List Counter → List Bool → List ℕ → ℕ → ℕ
total_share counters counts registers zero = 0
total_share counters counts registers (suc n) =
    total_share counters counts registers n
    + share_of (slice_get counters n) (slice_index_or counts n false) registers

-- what becomes of a register, and of all of them
abbrev pub IsMoved : Step → ℕ → ℕ → Type 0
IsMoved Kept old new = new ≡ old
IsMoved (By n) old new = new ≡ (old + n) % 2 ^ 64
IsMoved Anywhere old new = Unit {0}

abbrev pub AreMoved : List Step → List ℕ → List ℕ → Type 0
AreMoved steps old new =
    (k : ℕ) → k < 11 →
    IsMoved (slice_index_or steps k Anywhere) (slice_index old k) (slice_index new k)

-- each register is kept
abbrev pub kept_steps : List Step
kept_steps =
    Kept ∷ Kept ∷ Kept ∷ Kept ∷ Kept ∷ Kept ∷ Kept ∷ Kept ∷ Kept ∷ Kept ∷ Kept ∷ []

-- R6 to R10 are the same, which a local call keeps
abbrev pub SavedAreSame : List ℕ → List ℕ → Type 0
SavedAreSame old new = (k : ℕ) → 5 < k → k < 11 → slice_index new k ≡ slice_index old k

-- at least how many instructions may follow at a rank before the step or the local call ends
abbrev pub value_of : List Counter → Option Rank → List ℕ → ℕ
value_of counters None registers = 0
value_of counters (Some rank) registers = rank.base + total_share counters rank.counts registers 8

-- the same at a place, with these registers
abbrev pub value_at : List Rank → List Counter → ℕ → List ℕ → ℕ
value_at ranks counters place registers = value_of counters (slice_get ranks place) registers

-- the registers that a frame has saved
abbrev pub registers_of : Frame → List ℕ
registers_of f = 0 ∷ 0 ∷ 0 ∷ 0 ∷ 0 ∷ 0 ∷ f.r6 ∷ f.r7 ∷ f.r8 ∷ f.r9 ∷ f.r10 ∷ []

-- the same at the slots to which the open local calls return
abbrev pub values_of_frames : List Rank → List Counter → List Frame → ℕ
values_of_frames ranks counters [] = 0
values_of_frames ranks counters (f ∷ frames) =
    value_at ranks counters f.place (registers_of f) + values_of_frames ranks counters frames

-- at least how many instructions may follow before the step ends
abbrev pub ahead : List Rank → List Counter → State → ℕ
ahead ranks counters s =
    value_at ranks counters s.place s.registers + values_of_frames ranks counters s.frames

-- at a place the rank goes by R6 to R10 alone
abbrev pub IsSteady : List Rank → List Counter → ℕ → Type 0
IsSteady ranks counters place =
    (old new : List ℕ) → SavedAreSame old new →
    value_at ranks counters place new ≡ value_at ranks counters place old

-- so it is where the open local calls return
abbrev pub AreSteady : List Rank → List Counter → List Frame → Type 0
AreSteady ranks counters [] = Unit {0}
AreSteady ranks counters (f ∷ frames) =
    IsSteady ranks counters f.place × AreSteady ranks counters frames

-- each instruction leaves fewer ahead, or is the end of a step outside of all local calls, after
-- which there are fewer than the most
abbrev pub Falls : List Rank → List Counter → ℕ → State → Outcome → Type 0
Falls ranks counters most s (Next t) =
    (ahead ranks counters t < ahead ranks counters s) × AreSteady ranks counters t.frames
Falls ranks counters most s (Needs (need.Call number)) =
    (r0 : ℕ) (r1 : Option ℕ) → IsAnswer number r0 r1 →
    (ahead ranks counters (state_after_engine_call s r0 r1) < ahead ranks counters s)
    ⊎ ((number ≡ pos 5) × (ahead ranks counters (state_after_engine_call s r0 r1) < most))
Falls ranks counters most s _ = Unit {0}
