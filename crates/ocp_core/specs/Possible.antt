-- A procedure's own events are events that its image brings about, and the machine's faults are
-- those of its image.
use Rattle.std.specs.Prelude.{◌≡◌, ◌≤◌, ◌↔◌, ℕ, ℤ, pos, List, [], ◌∷◌, length, Option, Some, None}
use Rattle.std.specs.List.{All}
use Rattle.std.specs.FinMap.{get}
use Rattle.ocp_profile.specs.declared.profile.Profile.{Profile}
use Rattle.obcp_messages.specs.declared.payload.TheConstants.{MAX_ARGUMENTS_LENGTH}
use Rattle.bpf_step.specs.declared.answer.MachineFault.{MachineFault}
use Rattle.bpf_step.specs.declared.answer.Need.TheVariants as need
use Rattle.bpf_step.specs.Machine.{State, Next, Needs, machine_at_start}
use Rattle.bpf_step.specs.Step.{one_step}
use Rattle.bpf_step.specs.Reach.{IsOctet}
use Rattle.bpf_step.specs.Answers.{IsAnswer}
use Rattle.ocp_table.specs.declared.answers.InstructionOutcome.TheVariants.{Faulted}
use Rattle.ocp_table.specs.declared.answers.StepOutcome.TheVariants as outcome
use Rattle.ocp_table.specs.declared.fault.ProcedureFault.{ProcedureFault}
use Rattle.ocp_table.specs.declared.fault.ProcedureFault.TheVariants as fault
use Rattle.ocp_table.specs.Faults.{fault_number}
use Rattle.ocp_table.specs.Records.{Rec}
use Rattle.ocp_world.specs.World.{World, Event, Request, Step}
use Rattle.ocp_world.specs.After.{Stepped, after}
use Rattle.ocp_world.specs.Replay.{replay}
use Rattle.ocp_core.specs.History.{Does, NeedsNext}
use Rattle.ocp_core.specs.Own.{Own, Start, Local, Call, own_events, image_after}
use Rattle.ocp_core.specs.Alone.{state_by}

-- ---- own events

-- the image's instruction at the machine's place is an engine call, own events name it by this
-- number, 5 if it ends a step, and R0 and R1 are such as a call of its number is answered
pub record IsCallOf (image : List ℕ) (s : State) (number r0 : ℕ) (r1 : Option ℕ) : Type 0 where
  pub called : ℤ
  pub next : one_step image s ≡ Needs (need.Call called)
  pub ends_step : called ≡ pos 5 → number ≡ 5
  pub answered : IsAnswer called r0 r1

-- an own event that may come next: a start with as many arguments as a request may have, an
-- instruction that the image has at the machine's place and that needs no engine, or an engine call
-- that it has there, with such an answer
abbrev pub IsPossible : List ℕ → State → Own → Type 0
IsPossible image s (Start arguments) = length arguments ≤ MAX_ARGUMENTS_LENGTH
IsPossible image s Local = (t : State) × (one_step image s ≡ Next t)
IsPossible image s (Call number r0 r1) = IsCallOf image s number r0 r1

-- each of them may come next after those before it, from this machine on
abbrev pub ArePossible : List ℕ → State → List Own → Type 0
ArePossible image s [] = Unit {0}
ArePossible image s (event ∷ events) =
    IsPossible image s event × ArePossible image (state_by image event s) events

-- the image of a procedure, if it is loaded
abbrev pub image_of : Option Rec → Option (List ℕ)
image_of None = None
image_of (Some r) = Some r.image

-- the law: a procedure has the image of its last load
abbrev pub ImagesStay : Type 0
ImagesStay =
    (profile : Profile) (apid words : ℕ) (es : List Event) (id : ℕ) →
    image_of (get (replay profile apid words es).records id) ≡
    image_after profile apid words es id

-- the law: its own events since then are events that its image brings about
abbrev pub OwnEventsArePossible : Type 0
OwnEventsArePossible =
    (profile : Profile) (apid words : ℕ) (es : List Event) (id : ℕ) (image : List ℕ) →
    image_after profile apid words es id ≡ Some image →
    ArePossible image (machine_at_start profile []) (own_events profile apid words es id)

-- an event is made of octets: those of a request, since the others have none
abbrev pub IsOfOctets : Event → Type 0
IsOfOctets (Request by time octets) = All IsOctet octets
IsOfOctets event = Unit {0}

-- the arguments of a start are octets
abbrev pub StartsWithOctets : Own → Type 0
StartsWithOctets (Start arguments) = All IsOctet arguments
StartsWithOctets own = Unit {0}

-- the law: so are those of each start, if requests are made of octets
abbrev pub StartsAreOfOctets : Type 0
StartsAreOfOctets =
    (profile : Profile) (apid words : ℕ) (es : List Event) (id : ℕ) → All IsOfOctets es →
    All StartsWithOctets (own_events profile apid words es id)

-- ---- faults

-- the next instruction of a procedure meets this fault of the machine
abbrev pub Meets : Option Rec → MachineFault → Type 0
Meets o f = NeedsNext o (need.Fault f)

-- the law: faults 1 to 3 are those of the machine, and of nothing else
abbrev pub FaultsOfMachine : Type 0
FaultsOfMachine =
    (profile : Profile) (apid words : ℕ) (es : List Event) (by id : ℕ) (f : MachineFault) →
    let w = replay profile apid words es in
    Does w by id (Faulted (fault.Machine f)) ↔ Meets (get w.records id) f

-- the law: an answer that gives the number of a fault is that of an instruction with this fault
abbrev pub FaultsAreAnswered : Type 0
FaultsAreAnswered =
    (w : World) (by id number : ℕ) →
    (after w (Step by id)).answer ≡ Stepped (outcome.Faulted number) →
    (f : ProcedureFault) × (Does w by id (Faulted f)) × (fault_number f ≡ number)
