use Rattle.std.proofs.Common.{◌≡◌, ◌≤◌, ◌*◌, length, take}
use Rattle.std.specs.Option.{option_to_list}
use Rattle.std.specs.List.{flat_map}
use Rattle.ocp_reports.specs.Reports.{dispatch_of_notice}
use Rattle.ocp_reports.specs.Packets.{packets, together}
use Rattle.ocp_reports.proofs.sender.Sender.write_reports.Given as goal

-- the packets of the notices so far
abbrev pub invariant-loop-notice : goal.invariant-loop-notice
invariant-loop-notice g l = record {
  packets : l.out ≡ packets l.self.apid l.self.count (flat_map (dispatch_of_notice l.origin (option_to_list l.answer)) (take l.notice-index l.all));
  few : length l.out ≤ l.notice-index;
  short : length (together l.out) ≤ 68 * l.notice-index;
}
