use Rattle.std.proofs.Common.{◌≤◌, ◌+◌, ◌*◌, length}
use Rattle.bpf_assembler.proofs.FirstPass.{Taken}
use Rattle.bpf_assembler.proofs.table.Table.of.Given as goal

abbrev pub invariant-loop-rest : goal.invariant-loop-rest
invariant-loop-rest g l = record {
  taken : Taken l.text l.rest l.table.labels l.table.rows.items l.table.lines l.table.place;
  count : l.table.lines + length l.rest ≤ length l.text;
  place : l.table.place ≤ 2 * l.table.lines;
}

abbrev pub decreases-loop-rest : goal.decreases-loop-rest
decreases-loop-rest g l = length l.rest
