use Rattle.std.proofs.Common.{◌++◌, [], sym, ◌∙◌, arith}
use Rattle.std.proofs.lemmas.List.{append-nil, length-replicate}
use Rattle.ocp_world.specs.World.{Step}
use Rattle.ocp_core.specs.Log.{Steps}
use Rattle.ocp_flight.specs.Mirror.Kept.{MayEnter}
use Rattle.ocp_flight.proofs.store.BoundedStoreStore.push_steps.Given.{Over}
use Rattle.ocp_flight.proofs.store.BoundedStoreStore.push_steps.Goals as goal

may : (g : Over) (c : goal.After-enter-arg-4-1 g) → MayEnter c.args.self.now (c.steps_fields.result ++ []) c.args.count (Steps c.args.by c.args.id c.args.count)
may g c = record { are = append-nil c.steps_fields.result ∙ c.steps_fields.ensures; range = (omega arith, omega arith, omega arith); room = c.requires.may.room; count = sym (length-replicate c.args.count (Step c.args.by c.args.id)); some = c.requires.some; accepted = c.requires.may.accepted }

pub enter-requires : goal.enter-requires
enter-requires g c = (Steps c.args.by c.args.id c.args.count, may g c)

pub returns : goal.returns
returns g c = c.enter.ensures (Steps c.args.by c.args.id c.args.count) (may g c.before)
