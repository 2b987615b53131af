-- What a write of a pool word from outside does: that word becomes the value, and nothing else
-- changes.
use Rattle.std.specs.Prelude.{ℕ, Bool, true, false, nat_lt, List, length, Ok, Err}
use Rattle.ocp_table.specs.Effects.{Kept, Unasked, WordPut}
use Rattle.ocp_world.specs.declared.answers.PutFault.TheVariants.{BadPoolIndex}
use Rattle.ocp_world.specs.Effect.{Effect, Puts}

-- its effect, by whether the index is that of a pool word
abbrev pub put_effect_if : Bool → ℕ → ℕ → Effect
put_effect_if true index value = record { on_records = WordPut index value; reply = Puts (Ok tt) }
put_effect_if false index value = record {
  on_records = Kept Unasked;
  reply = Puts (Err BadPoolIndex);
}

abbrev pub put_effect : ℕ → ℕ → List ℕ → Effect
put_effect index value pool = put_effect_if (nat_lt index (length pool)) index value
