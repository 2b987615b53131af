-- The one induction over events. What each event keeps true of a world and of what is gathered from the history, is true
-- of each replay and of its history. An event is seen as its effect, which is honest.
use Rattle.std.proofs.Common.{List, [], ◌∷◌}
use Rattle.ocp_table.specs.Effects as table
use Rattle.ocp_world.specs.World.{World, Event}
use Rattle.ocp_world.specs.Effect.{Effect}
use Rattle.ocp_world.specs.After.{effect_of, world_after, after}
use Rattle.ocp_world.specs.Replay.{replay_from}
use Rattle.ocp_core.specs.History.{history_from, gather, gather_along}
use Rattle.ocp_core.proofs.Honest.{IsHonest, honest}

-- two gatherings at once
pub carried : {S T : Type 0} (add : table.Effect → S → S) (add' : table.Effect → T → T) (P : World → S → T → Type 0) → ((w : World) (s : S) (t : T) (effect : Effect) → IsHonest w.profile w.records w.pool effect.on_records → P w s t → P (world_after effect w) (add effect.on_records s) (add' effect.on_records t)) → (w : World) (s : S) (t : T) (es : List Event) → P w s t → P (replay_from w es) (gather add s (history_from w es)) (gather add' t (history_from w es))
carried add add' P step w s t [] p = p
carried add add' P step w s t (e ∷ es) p =
    carried add add' P step (world_after (effect_of w e) w) (add (effect_of w e).on_records s) (add' (effect_of w e).on_records t) es
    (step w s t (effect_of w e) (honest w e) p)

-- three gatherings at once, from the events themselves
pub carried_along : {S T U : Type 0} (add : World → Event → S → S) (add' : World → Event → T → T) (add'' : World → Event → U → U) (P : World → S → T → U → Type 0) → ((w : World) (s : S) (t : T) (u : U) (e : Event) → P w s t u → P (after w e).world (add w e s) (add' w e t) (add'' w e u)) → (w : World) (s : S) (t : T) (u : U) (es : List Event) → P w s t u → P (replay_from w es) (gather_along add s w es) (gather_along add' t w es) (gather_along add'' u w es)
carried_along add add' add'' P step w s t u [] p = p
carried_along add add' add'' P step w s t u (e ∷ es) p = carried_along add add' add'' P step (after w e).world (add w e s) (add' w e t) (add'' w e u) es (step w s t u e p)
