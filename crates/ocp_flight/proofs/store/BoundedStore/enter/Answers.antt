use Rattle.std.proofs.Common.{◌+◌, arith}
use Rattle.ocp_flight.proofs.Entering.{fits, flown_entered, kept_entered}
use Rattle.ocp_flight.proofs.store.BoundedStore.enter.Goals as goal

pub push-requires : goal.push-requires
push-requires g c =
    let may = c.requires.1 in
    fits c.self.inside c.self.invariant c.args.self.now c.self.view_is c.requires.0 may.range may.room c.args.head.now c.args.packet.now may.are

pub invariant_of-self : goal.invariant_of-self
invariant_of-self g c =
    let may = c.requires.1 in
    kept_entered c.self.inside c.self.invariant c.args.self.now c.self.view_is c.requires.0 may.range may.room c.args.head.now c.args.packet.now may.are c.push.new.self c.note.new.self _ c.push.ensures c.note.ensures (omega (arith, may.count)) (omega (arith, may.count, may.some)) (omega (arith, may.count)) may.accepted

pub returns : goal.returns
returns g c e may = flown_entered c.self.inside c.self.invariant c.args.self.now c.self.view_is e may.range may.room c.args.head.now c.args.packet.now may.are c.push.new.self c.note.new.self (c.self.inside.events + c.args.events) c.push.ensures c.note.ensures
