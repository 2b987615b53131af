use Rattle.std.proofs.Common.{◌++◌, refl, ap, arith}
use Rattle.ocp_core.specs.Log.{Asked}
use Rattle.ocp_flight.proofs.store.BoundedStoreRequestStore.push_request.Goals as goal

pub enter-requires : goal.enter-requires
enter-requires g c = (Asked c.args.by c.args.time c.args.octets.now, record { are = ap (λ head. head ++ c.args.octets.now) c.time_fields.ensures; range = (omega arith, omega arith); room = c.requires.may.2.room; count = refl; some = omega arith; accepted = c.requires.may.2.accepted })

pub returns-clause-store : goal.returns-clause-store
returns-clause-store g c = c.enter.ensures (Asked c.args.by c.args.time c.args.octets.now) (record { are = ap (λ head. head ++ c.args.octets.now) c.time_fields.ensures; range = (omega arith, omega arith); room = c.requires.may.2.room; count = refl; some = omega arith; accepted = c.requires.may.2.accepted })
