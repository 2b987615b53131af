use Rattle.std.proofs.Common.{◌≡◌, ◌≤◌, ◌*◌, length, take}
use Rattle.std.specs.List.{flat_map}
use Rattle.ocp_reports.specs.Due.{due_dispatches}
use Rattle.ocp_reports.specs.Packets.{packets, together}
use Rattle.ocp_reports.proofs.sender.Sender.write_drained.Given as goal

-- the packets of the completions so far
abbrev pub invariant-loop-one : goal.invariant-loop-one
invariant-loop-one g l = record {
  packets : l.out ≡ packets l.self.apid l.self.count (flat_map (due_dispatches l.time) (take l.one-index l.due));
  few : length l.out ≤ l.one-index;
  short : length (together l.out) ≤ 25 * l.one-index;
}
