-- The procedure whose turn is next, by the rows of all procedures.
use Rattle.std.specs.Prelude.{ℕ, ◌+◌, Bool, ◌&&◌, nat_le, if◌then◌else◌, List, [], ◌∷◌, Option, Some, None}
use Rattle.obcp_types.specs.declared.status.StatusRow.{StatusRow}
use Rattle.ocp_world.specs.Slice.{is_running_status}

abbrev pub runs_from : ℕ → StatusRow → Bool
runs_from from row = is_running_status row.status && nat_le from row.id

-- the first row that runs, with an id from this one on
abbrev pub first_from : ℕ → List StatusRow → Option ℕ
first_from from [] = None
first_from from (row ∷ rows) = if runs_from from row then Some row.id else first_from from rows

abbrev pub bound_after : Option ℕ → ℕ
bound_after None = 0
bound_after (Some id) = id + 1

abbrev pub or_first : Option ℕ → List StatusRow → Option ℕ
or_first None rows = first_from 0 rows
or_first (Some id) rows = Some id

abbrev pub next_in : Option ℕ → List StatusRow → Option ℕ
next_in before rows = or_first (first_from (bound_after before) rows) rows
