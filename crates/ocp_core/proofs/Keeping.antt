-- An engine whose journal gains an entry.
use Rattle.std.proofs.Common.{◌≡◌, ℕ, refl, sym, ap, subst, ◌∙◌}
use Rattle.ocp_profile.specs.declared.profile.Profile.{Profile}
use Rattle.ocp_world.specs.World.{opening}
use Rattle.ocp_world.specs.Replay.{replay_from}
use Rattle.ocp_core.specs.Log.{Log, Entry, events_of, with_entry, empty_log, world_of}
use Rattle.ocp_world.specs.Mirror.State.{IsWorld}
use Rattle.ocp_world.specs.declared.state.State.{State}
use Rattle.ocp_core.proofs.Replays.{world_of-with_entry}

world_of-empty_log : (profile : Profile) (apid words capacity : ℕ) → world_of (empty_log profile apid words capacity) ≡ opening profile apid words
unfolding world_of
world_of-empty_log profile apid words capacity = refl

module _ {A : Type 0} where
  pub IsWorld-with_entry : (log new : Log) (e : Entry) (s : State A) → new ≡ with_entry log e → IsWorld (replay_from (world_of log) (events_of e)) s → IsWorld (world_of new) s
  IsWorld-with_entry log new e s is stands = subst (λ w. IsWorld w s) (sym (ap world_of is ∙ world_of-with_entry log e)) stands

  pub IsWorld-empty_log : (new : Log) (profile : Profile) (apid words capacity : ℕ) (s : State A) → new ≡ empty_log profile apid words capacity → IsWorld (opening profile apid words) s → IsWorld (world_of new) s
  IsWorld-empty_log new profile apid words capacity s is stands = subst (λ w. IsWorld w s) (sym (ap world_of is ∙ world_of-empty_log profile apid words capacity)) stands
