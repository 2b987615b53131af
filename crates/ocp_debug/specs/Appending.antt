-- How a text is appended to an output.
use Rattle.std.specs.Prelude.{◌≡◌, ◌<◌, ◌≤◌, ℕ, List, ◌++◌, length, Result, OnOk, OnErr, Vec, vec_capacity}

-- it is, or memory is refused: only if the text does not fit into the capacity that the output has,
-- and then the output stays as it was
pub record Appends {A E : Type 0} (text : List ℕ) (old new : Vec ℕ A)
    (result : Result (Unit {0}) E) : Type 0 where
  pub ok : OnOk result (new.items ≡ old.items ++ text)
  pub err : OnErr result (new.items ≡ old.items)
  pub memory : OnErr result (vec_capacity old < length (old.items ++ text))
  pub same_capacity : OnErr result (vec_capacity new ≡ vec_capacity old)
  pub capacity : vec_capacity old ≤ vec_capacity new
