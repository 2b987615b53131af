-- The world after events, one after another, and their answers.
use Rattle.std.specs.Prelude.{ℕ, List, [], ◌∷◌}
use Rattle.ocp_profile.specs.declared.profile.Profile.{Profile}
use Rattle.ocp_world.specs.World.{World, Event, opening}
use Rattle.ocp_world.specs.After.{Answer, after}

-- the world after events from a world on
abbrev pub replay_from : World → List Event → World
replay_from w [] = w
replay_from w (e ∷ es) = replay_from (after w e).world es

-- the world of a profile and an application process with `words` pool words, after events
abbrev pub replay : Profile → ℕ → ℕ → List Event → World
replay profile apid words es = replay_from (opening profile apid words) es

abbrev pub answers : World → List Event → List Answer
answers w [] = []
answers w (e ∷ es) = (after w e).answer ∷ answers (after w e).world es
