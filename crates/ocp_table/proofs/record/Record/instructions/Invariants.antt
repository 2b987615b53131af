use Rattle.std.proofs.Common.{◌≡◌, true, ◌-◌, ◌≤◌}
use Rattle.ocp_table.specs.Outbox.{HasPlaceBeside}
use Rattle.ocp_table.specs.Slices.{is_done}
use Rattle.ocp_table.proofs.Slicing.{IsSliced}
use Rattle.ocp_table.proofs.record.Record.instructions.Given as goal

-- the events so far
abbrev pub invariant-loop-count : goal.invariant-loop-count
invariant-loop-count g l = record {
  within : l.count ≤ l.budget;
  place : HasPlaceBeside l.outbox.items l.self.control.pending;
  done : is_done l.last ≡ true;
  sliced : IsSliced l.extent l.fn.self l.self l.fn.outbox.items l.outbox.items l.fn.pool l.pool l.count l.last;
}

abbrev pub decreases-loop-count : goal.decreases-loop-count
decreases-loop-count g l = l.budget - l.count
