use Rattle.std.proofs.Common.{sym, ap, ◌∙◌}
use Rattle.std.specs.Prelude.{not}
use Rattle.ocp_flight.specs.Pieces as tapes
use Rattle.ocp_core.specs.Log.{entry_for}
use Rattle.ocp_core.specs.Journal.{event_of}
use Rattle.ocp_flight.specs.Flown.{is_full}
use Rattle.ocp_flight.proofs.Storing.{room_held}
use Rattle.ocp_flight.proofs.store.BoundedStoreStore.is_full.Goals as goal

pub returns : goal.returns
returns g c =
    let e = entry_for (event_of c.args.event.now) in
    ap not (c.has_room.ensures ∙ ap (tapes.has_room c.self.inside.tape) c.length_of.ensures ∙ sym (room_held c.self.inside c.self.invariant e))
    ∙ ap (λ f. is_full f e) c.self.view_is
