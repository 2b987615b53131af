use Rattle.std.proofs.Common.{◌∷◌, length, get_or, ap, ◌∙◌}
use Rattle.std.specs.Prelude.{Some, slice_get}
use Rattle.std.specs.Option.{option_map}
use Rattle.ocp_flight.specs.Mirror.Cut.{distance}
use Rattle.ocp_flight.proofs.Insides.{lengths_are}
use Rattle.ocp_flight.proofs.tape.Tape.length_at.Goals as goal

pub returns-in-Some : goal.returns-in-Some
returns-in-Some g c =
    let t = c.self.inside in
    let start = get_or (t.start ∷ t.ends.items) c.args.index 0 in
    ap Some (c.distance.ensures ∙ ap (λ from. distance from c.in-Some.end.now) c.beginning-start.ensures)
    ∙ ap (option_map (distance start)) c.in-Some.ensures
    ∙ lengths_are t c.self.invariant c.args.index
    ∙ ap (λ t. option_map length (slice_get t.pieces c.args.index)) c.self.view_is

pub returns-in-None : goal.returns-in-None
returns-in-None g c =
    let t = c.self.inside in
    let start = get_or (t.start ∷ t.ends.items) c.args.index 0 in
    ap (option_map (distance start)) c.in-None.ensures
    ∙ lengths_are t c.self.invariant c.args.index
    ∙ ap (λ t. option_map length (slice_get t.pieces c.args.index)) c.self.view_is
