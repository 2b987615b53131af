-- The world of all entries, when there is one more.
use Rattle.std.proofs.Common.{◌≡◌, ◌+◌, [], length, sym, ap, subst, ◌∙◌}
use Rattle.ocp_world.specs.Replay.{replay_from}
use Rattle.ocp_world.specs.Mirror.State.{IsWorld}
use Rattle.ocp_world.specs.declared.state.State.{State}
use Rattle.ocp_core.specs.Log.{Entry, events_of, expand}
use Rattle.ocp_core.specs.Mirror.Counted.{AreCounted}
use Rattle.ocp_core.proofs.Journaling.{replay_from-apid}
use Rattle.ocp_flight.specs.Flown.{Flown, with_entry, world_of}
use Rattle.ocp_flight.specs.Mirror.Replays.{world_of-with_entry}

pub number_more : (f new : Flown) (e : Entry) → new ≡ with_entry f e → AreCounted (world_of f) (events_of e) → (world_of new).events ≡ (world_of f).events + length (events_of e)
number_more f new e is counted = ap (λ g. (world_of g).events) is ∙ ap (λ w. w.events) (world_of-with_entry f e) ∙ counted

-- without entries it is the one that the engine began in
pub world_none : (f : Flown) → f.entries ≡ [] → world_of f ≡ f.base
unfolding world_of
world_none f none = ap (λ entries. replay_from f.base (expand entries)) none

-- it is that of the world that the engine began in and of the entries alone
pub same_world : (f g : Flown) → f.base ≡ g.base → f.entries ≡ g.entries → world_of f ≡ world_of g
unfolding world_of
same_world f g base entries = λ i. replay_from (base i) (expand (entries i))

pub world_of-apid : (f : Flown) → (world_of f).apid ≡ f.base.apid
unfolding world_of
world_of-apid f = replay_from-apid f.base (expand f.entries)

-- the state of an engine without entries
module _ {A : Type 0} where
  pub IsWorld-begun : (new f : Flown) (s : State A) → new ≡ f → f.entries ≡ [] → IsWorld f.base s → IsWorld (world_of new) s
  IsWorld-begun new f s is none stands = subst (λ w. IsWorld w s) (sym (ap world_of is ∙ world_none f none)) stands
