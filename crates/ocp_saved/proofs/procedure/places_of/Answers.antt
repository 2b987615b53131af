use Rattle.std.proofs.Common.{◌≡◌, ◌++◌, ◌∷◌, [], ◌∙◌, ap, arith, length, length-drop}
use Rattle.std.proofs.lemmas.List.{length_push}
use Rattle.byteorder.specs.Endian.{big_number}
use Rattle.ocp_saved.specs.Reading.{items_in}
use Rattle.ocp_saved.proofs.Items.{items_go_on, items_done}
use Rattle.ocp_saved.proofs.procedure.places_of.Goals as goal

pub loop-preserved : goal.loop-preserved
loop-preserved c =
    let front = c.loop.places.items in
    let rest = c.loop.rest.now in
    let pushed : c.push.new.self.items ≡ front ++ big_number 2 rest ∷ [] = c.push.ensures.items ∙ ap (λ f. front ++ f ∷ []) c.read_u16.ensures in
    let lt = c.loop-test.true in
    let long = c.loop.invariant.1 in (
      rw pushed (items_go_on (big_number 2) 2 front c.args.count c.loop.counter rest c.split_at.result.1.now (items_in (big_number 2) 2 c.args.count c.args.octets.now) lt c.split_at.ensures.back c.loop.invariant.0),
      omega (arith, long, lt, ap length c.split_at.ensures.back, length-drop 2 rest),
      omega (arith, ap length pushed, length_push front (big_number 2 rest), c.loop.invariant.2),
    )

pub returns : goal.returns
returns c = items_done (big_number 2) 2 c.loop.places.items c.args.count c.loop.counter c.loop.rest.now (items_in (big_number 2) 2 c.args.count c.args.octets.now) c.loop-test.false c.loop.invariant.0
