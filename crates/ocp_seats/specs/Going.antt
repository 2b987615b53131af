-- How the journal of a shared engine grows.
use Rattle.std.specs.Prelude.{◌≡◌, ◌++◌, length, drop}
use Rattle.ocp_core.specs.Log.{Log}

-- one journal is the other, followed by further entries: it has the same profile, identifier, words
-- and capacity, and the other's entries come first
pub record GoesOn (start now : Log) : Type 0 where
  pub journal : now ≡ record start {
    entries = start.entries ++ drop (length start.entries) now.entries;
  }
