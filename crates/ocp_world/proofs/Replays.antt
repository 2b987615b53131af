-- Replays of lists of events, one after another.
use Rattle.std.proofs.Common.{◌≡◌, ℕ, zero, suc, ◌+◌, replicate, refl, add-one}
use Rattle.ocp_world.specs.World.{World, Step}
use Rattle.ocp_world.specs.After.{after}
use Rattle.ocp_world.specs.Replay.{replay_from}

-- one more step at the end
pub steps-suc : (w : World) (by id n : ℕ) → replay_from w (replicate (suc n) (Step by id)) ≡ (after (replay_from w (replicate n (Step by id))) (Step by id)).world
steps-suc w by id zero = refl
steps-suc w by id (suc n) = steps-suc (after w (Step by id)).world by id n

pub replay_from-steps : (w : World) (by id n : ℕ) → replay_from w (replicate (n + 1) (Step by id)) ≡ (after (replay_from w (replicate n (Step by id))) (Step by id)).world
replay_from-steps w by id n = rw add-one (steps-suc w by id n)
