-- The rows of a status report.
use Rattle.std.specs.Prelude.{List, map}
use Rattle.std.specs.List.Sorted.{IsStrictlyIncreasing}
use Rattle.obcp_types.specs.declared.status.StatusRow.{StatusRow}

-- each identifier is below the next
abbrev pub IsRising : List StatusRow → Type 0
IsRising rows = IsStrictlyIncreasing (map (λ row. row.id) rows)
