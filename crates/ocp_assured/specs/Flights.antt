-- What is true of a procedure's image in flight: in any engine, after any events. Their requests
-- are made of octets, each below 256, as those that an engine is given always are.
use Rattle.std.specs.Prelude.{◌≡◌, ◌≢◌, ◌<◌, ◌≤◌, ℕ, ◌+◌, ◌==◌, if◌then◌else◌, List, [], ◌∷◌, Some}
use Rattle.std.specs.List.{All}
use Rattle.std.specs.FinMap.{get}
use Rattle.ocp_profile.specs.declared.profile.Profile.{Profile}
use Rattle.bpf_step.specs.Reach.{Reaches}
use Rattle.ocp_table.specs.declared.answers.StepOutcome.TheVariants as outcome
use Rattle.ocp_table.specs.Records.{Rec}
use Rattle.ocp_world.specs.World.{Event, Step}
use Rattle.ocp_world.specs.After.{Stepped, after}
use Rattle.ocp_world.specs.Replay.{replay}
use Rattle.ocp_core.specs.Log.{Log, expand, world_of, answer_in}
use Rattle.ocp_core.specs.Own.{Own, Start, Local, Call, own_events, image_after}
use Rattle.ocp_core.specs.Possible.{image_of, IsOfOctets}

-- ---- machines

-- the machine of each loaded procedure is one that its image reaches
abbrev pub MachinesAreReached : Type 0
MachinesAreReached =
    (profile : Profile) (apid words : ℕ) (es : List Event) (id : ℕ) (r : Rec) →
    All IsOfOctets es → get (replay profile apid words es).records id ≡ Some r →
    Reaches r.image r.machine

-- ---- faults

-- no instruction event of a procedure with this image is answered fault 1, 2 or 3, after any events
-- of a new engine
abbrev pub NeverFaultsInFlight : List ℕ → Type 0
NeverFaultsInFlight image =
    (profile : Profile) (apid words : ℕ) (es : List Event) (by id number : ℕ) →
    All IsOfOctets es → image_after profile apid words es id ≡ Some image → number ≤ 3 →
    (after (replay profile apid words es) (Step by id)).answer ≢ Stepped (outcome.Faulted number)

-- no such event is answered fault 4, if the pool has at least `asked` words
abbrev pub AsksWellInFlight : List ℕ → ℕ → Type 0
AsksWellInFlight image asked =
    (profile : Profile) (apid words : ℕ) (es : List Event) (by id : ℕ) →
    All IsOfOctets es → image_after profile apid words es id ≡ Some image → asked ≤ words →
    (after (replay profile apid words es) (Step by id)).answer ≢ Stepped (outcome.Faulted 4)

-- no engine, with any journal, answers an instruction of a procedure with this image fault 1, 2 or
-- 3
abbrev pub NeverFaultsInJournals : List ℕ → Type 0
NeverFaultsInJournals image =
    (log : Log) (by id number : ℕ) → All IsOfOctets (expand log.entries) →
    image_of (get (world_of log).records id) ≡ Some image → number ≤ 3 →
    answer_in log (Step by id) ≢ Stepped (outcome.Faulted number)

abbrev pub AsksWellInJournals : List ℕ → ℕ → Type 0
AsksWellInJournals image asked =
    (log : Log) (by id : ℕ) → All IsOfOctets (expand log.entries) →
    image_of (get (world_of log).records id) ≡ Some image → asked ≤ log.words →
    answer_in log (Step by id) ≢ Stepped (outcome.Faulted 4)

-- ---- rounds

-- the instructions of a round after one more own event: a start and the end of a step (engine call
-- 5) begin the next round
abbrev pub round_by : ℕ → Own → ℕ
round_by n (Start arguments) = 0
round_by n Local = n + 1
round_by n (Call number r0 r1) = if number == 5 then 0 else n + 1

abbrev pub round_from : ℕ → List Own → ℕ
round_from n [] = n
round_from n (event ∷ events) = round_from (round_by n event) events

-- how many instructions a procedure has done since its load, its last start and its last end of a
-- step
abbrev pub instructions_in_round : Profile → ℕ → ℕ → List Event → ℕ → ℕ
instructions_in_round profile apid words es id =
    round_from 0 (own_events profile apid words es id)

-- they are always fewer than this: with the next one, which may end the step or the procedure, a
-- round has at most this many
abbrev pub IsWithinInFlight : List ℕ → ℕ → Type 0
IsWithinInFlight image most =
    (profile : Profile) (apid words : ℕ) (es : List Event) (id : ℕ) → All IsOfOctets es →
    image_after profile apid words es id ≡ Some image →
    instructions_in_round profile apid words es id < most
