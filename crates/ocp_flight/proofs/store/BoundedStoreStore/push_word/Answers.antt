use Rattle.std.proofs.Common.{◌++◌, [], refl, ◌∙◌, arith}
use Rattle.std.proofs.lemmas.List.{append-nil}
use Rattle.ocp_core.specs.Log.{Wrote}
use Rattle.ocp_flight.specs.Mirror.Kept.{MayEnter}
use Rattle.ocp_flight.proofs.store.BoundedStoreStore.push_word.Given.{Over}
use Rattle.ocp_flight.proofs.store.BoundedStoreStore.push_word.Goals as goal

may : (g : Over) (c : goal.After-enter-arg-4-1 g) → MayEnter c.args.self.now (c.word_fields.result ++ []) 1 (Wrote c.args.by c.args.index c.args.value)
may g c = record { are = append-nil c.word_fields.result ∙ c.word_fields.ensures; range = (omega arith, omega arith, omega arith); room = c.requires.room; count = refl; some = omega arith; accepted = c.requires.accepted }

pub enter-requires : goal.enter-requires
enter-requires g c = (Wrote c.args.by c.args.index c.args.value, may g c)

pub returns : goal.returns
returns g c = c.enter.ensures (Wrote c.args.by c.args.index c.args.value) (may g c.before)
