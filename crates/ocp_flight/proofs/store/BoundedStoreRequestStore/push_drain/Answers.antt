use Rattle.std.proofs.Common.{◌++◌, [], refl, ◌∙◌, arith}
use Rattle.std.proofs.lemmas.List.{append-nil}
use Rattle.ocp_core.specs.Log.{Drained}
use Rattle.ocp_flight.specs.Mirror.Kept.{MayEnter}
use Rattle.ocp_flight.proofs.store.BoundedStoreRequestStore.push_drain.Given.{Over}
use Rattle.ocp_flight.proofs.store.BoundedStoreRequestStore.push_drain.Goals as goal

may : (g : Over) (c : goal.After-enter-arg-4-1 g) → MayEnter c.args.self.now (c.time_fields.result ++ []) 1 (Drained c.args.by c.args.time)
may g c = record { are = append-nil c.time_fields.result ∙ c.time_fields.ensures; range = (omega arith, omega arith); room = c.requires.2.room; count = refl; some = omega arith; accepted = c.requires.2.accepted }

pub enter-requires : goal.enter-requires
enter-requires g c = (Drained c.args.by c.args.time, may g c)

pub returns-clause-store : goal.returns-clause-store
returns-clause-store g c = c.enter.ensures (Drained c.args.by c.args.time) (may g c.before)
