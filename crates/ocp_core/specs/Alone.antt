-- A machine by itself: what its image and its own events make of it. No world, pool, mailbox or
-- other procedure is seen.
use Rattle.std.specs.Prelude.{◌≡◌, ℕ, List, [], ◌∷◌, Option, Some, None}
use Rattle.std.specs.FinMap.{get}
use Rattle.ocp_profile.specs.declared.profile.Profile.{Profile}
use Rattle.bpf_step.specs.Machine.{State, machine_at_start, machine_at_restart}
use Rattle.bpf_step.specs.Step.{one_step}
use Rattle.bpf_step.specs.Calls.{state_after_engine_call}
use Rattle.ocp_table.specs.Effects.{machine_after}
use Rattle.ocp_table.specs.Laws.{machine_of}
use Rattle.ocp_world.specs.World.{Event}
use Rattle.ocp_world.specs.Replay.{replay}
use Rattle.ocp_core.specs.Own.{Own, Start, Local, Call, own_events, image_after}

-- a start restarts it, with a work region as large as before; an instruction is the image's at the
-- machine's place; an engine call puts its answers in, and the place moves on by one slot
abbrev pub state_by : List ℕ → Own → State → State
state_by image (Start arguments) s = machine_at_restart arguments s
state_by image Local s = machine_after (one_step image s) s
state_by image (Call number r0 r1) s = state_after_engine_call s r0 r1

abbrev pub alone_from : List ℕ → State → List Own → State
alone_from image s [] = s
alone_from image s (event ∷ events) = alone_from image (state_by image event s) events

-- the machine of an image after its own events, from a new machine of a profile
abbrev pub alone : Profile → List ℕ → List Own → State
alone profile image own = alone_from image (machine_at_start profile []) own

-- the same, if there is an image
abbrev pub alone_if : Profile → Option (List ℕ) → List Own → Option State
alone_if profile None own = None
alone_if profile (Some image) own = Some (alone profile image own)

-- the machine of a procedure after events of a new engine, by its own events alone
abbrev pub alone_after : Profile → ℕ → ℕ → List Event → ℕ → Option State
alone_after profile apid words es id =
    alone_if profile (image_after profile apid words es id) (own_events profile apid words es id)

-- the law: each procedure's machine in the world, if it is loaded, is its machine alone
abbrev pub IsFactored : Type 0
IsFactored =
    (profile : Profile) (apid words : ℕ) (es : List Event) (id : ℕ) →
    machine_of (get (replay profile apid words es).records id) ≡
    alone_after profile apid words es id
