use Rattle.std.proofs.Common.{◌++◌, [], refl, ◌∙◌, arith}
use Rattle.std.proofs.lemmas.List.{append-nil}
use Rattle.ocp_core.specs.Log.{Debugged}
use Rattle.ocp_flight.specs.Mirror.Kept.{MayEnter}
use Rattle.ocp_flight.proofs.store.BoundedStoreStore.push_command.Given.{Over}
use Rattle.ocp_flight.proofs.store.BoundedStoreStore.push_command.Goals as goal

may : (g : Over) (c : goal.After-enter-arg-4-1 g) → MayEnter c.args.self.now (c.command_fields.result ++ []) 1 (Debugged c.args.by c.args.id c.args.command)
may g c = record { are = append-nil c.command_fields.result ∙ c.command_fields.ensures.octets; range = (omega arith, omega arith, c.command_fields.ensures.range); room = c.requires.room; count = refl; some = omega arith; accepted = c.requires.accepted }

pub enter-requires : goal.enter-requires
enter-requires g c = (Debugged c.args.by c.args.id c.args.command, may g c)

pub returns : goal.returns
returns g c = c.enter.ensures (Debugged c.args.by c.args.id c.args.command) (may g c.before)
