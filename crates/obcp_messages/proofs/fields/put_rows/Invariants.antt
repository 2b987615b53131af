use Rattle.std.proofs.Common.{◌≡◌, ◌<◌, ◌^◌, ◌+◌, ◌*◌, ◌++◌, length, take}
use Rattle.std.specs.List.{flat_map, AllWithin}
use Rattle.obcp_messages.specs.Report.{row_data}
use Rattle.obcp_types.specs.declared.status.StatusRow.{StatusRow}
use Rattle.obcp_messages.proofs.fields.put_rows.Given as goal

abbrev pub invariant-loop-row : goal.invariant-loop-row
invariant-loop-row l = record {
  so_far : l.fields.items ≡ l.initial.fields.items ++ flat_map row_data (take l.row-index l.rows);
  size : length l.fields.items ≡ length l.initial.fields.items + 3 * l.row-index;
  in_range : AllWithin (λ (row : StatusRow). row.id < 2 ^ 16) l.rows 0 l.row-index;
}
