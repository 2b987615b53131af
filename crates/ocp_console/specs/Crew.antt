-- What a line does if a crew does the work.
use Rattle.std.specs.Prelude.{◌≡◌, ℕ, List, Result, Ok, Err}
use Rattle.ocp_core.specs.Log.{Log}
use Rattle.ocp_ports.specs.declared.crew.CrewFault.{CrewFault}
use Rattle.ocp_console.specs.Answering.{State, Effect, Does, Works}
use Rattle.ocp_console.specs.Texts.{work_line}

-- What a crew may answer. It gets an engine, which is its journal, the number of workers, their
-- budget and how many turns each takes; it gives an engine back, or it refuses.
abbrev pub CrewAnswers : Type 1
CrewAnswers = Log → ℕ → ℕ → ℕ → Result Log CrewFault → Type 0

-- the next state and what is printed, after a line with this effect
abbrev pub HasDone : CrewAnswers → State → Effect → State × List ℕ → Type 0
HasDone crew state (Does next) done = done ≡ next
HasDone crew state (Works workers budget turns) done =
    (engine : Log) × crew state.engine workers budget turns (Ok engine)
    × (done ≡ (record state { engine = engine }, work_line workers))

-- the crew refused a line with this effect
abbrev pub HasRefused : CrewAnswers → State → Effect → CrewFault → Type 0
HasRefused crew state (Does next) refused = ⊥
HasRefused crew state (Works workers budget turns) refused =
    crew state.engine workers budget turns (Err refused)
