use Rattle.std.proofs.Common.{length, ap, refl, arith, length-append}
use Rattle.ocp_flight.specs.Mirror.Cut.{contents_of}
use Rattle.ocp_flight.proofs.Cut.{most-of-room, octets-of-room}
use Rattle.ocp_flight.proofs.Insides.{count, size}
use Rattle.ocp_flight.proofs.Pushing.{room_in, taped_more, cut_more}
use Rattle.ocp_flight.proofs.tape.Tape.push.Goals as goal

pub extend-requires : goal.extend-requires
extend-requires g c =
    let t = c.self.inside in
    let fits = octets-of-room (contents_of t) _ (room_in t _ c.self.view_is _ c.requires) in
    omega (arith, fits, size t c.self.invariant)

pub extend-requires-2 : goal.extend-requires-2
extend-requires-2 g c =
    let t = c.self.inside in
    let fits = octets-of-room (contents_of t) _ (room_in t _ c.self.view_is _ c.requires) in
    omega (arith, fits, size t c.self.invariant, ap (λ b. length b.items) c.extend.ensures, ap (λ b. b.capacity) c.extend.ensures, length-append t.octets.items c.args.head.now)

pub append-requires : goal.append-requires
append-requires g c =
    let t = c.self.inside in
    let more = most-of-room (contents_of t) _ (room_in t _ c.self.view_is _ c.requires) in
    omega (arith, more, count t c.self.invariant)

pub invariant_of-self : goal.invariant_of-self
invariant_of-self g c = cut_more c.self.inside c.self.invariant _ c.self.view_is c.args.head.now c.args.tail.now c.requires c.extend.new.octets c.extend-2.new.octets c.append.new.ends _ c.extend.ensures c.extend-2.ensures c.append.ensures refl

pub returns : goal.returns
returns g c = taped_more c.self.inside c.self.invariant _ c.self.view_is c.args.head.now c.args.tail.now c.requires c.extend.new.octets c.extend-2.new.octets c.append.new.ends _ c.extend.ensures c.extend-2.ensures c.append.ensures refl
