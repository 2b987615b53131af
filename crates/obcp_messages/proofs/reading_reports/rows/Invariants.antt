use Rattle.std.proofs.Common.{◌≡◌, ◌-◌, ◌*◌, ◌++◌, length, drop}
use Rattle.std.specs.Option.{option_map}
use Rattle.obcp_messages.specs.Mirror.ReadingReports.{rows_in}
use Rattle.obcp_messages.proofs.reading_reports.rows.Given as goal

abbrev pub invariant-loop-i : goal.invariant-loop-i
invariant-loop-i l = record {
  so_far : length l.rows.items ≡ l.i;
  whatever_follows : option_map (λ rest. l.rows.items ++ rest) (rows_in (l.count - l.i) (drop (3 * l.i) l.octets)) ≡ rows_in l.count l.octets;
}
