-- What a drain does: the completions that wait are reported, and then none waits.
use Rattle.std.specs.Prelude.{ℕ, List, [], ◌∷◌}
use Rattle.obcp_types.specs.declared.pending.Due.{Due}
use Rattle.ocp_table.specs.Effects.{Kept, Unasked, Drained}
use Rattle.ocp_reports.specs.Due.{drain_dispatches}
use Rattle.ocp_world.specs.Effect.{Effect, Sends, Undue}

-- each is reported at this time, the oldest first; if none waits, the drain is refused
abbrev pub drain_effect : ℕ → List Due → Effect
drain_effect time [] = record { on_records = Kept Unasked; reply = Undue }
drain_effect time (due ∷ dues) = record {
  on_records = Drained;
  reply = Sends (drain_dispatches time (due ∷ dues));
}
