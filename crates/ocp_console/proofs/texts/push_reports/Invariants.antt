use Rattle.std.proofs.Common.{◌≡◌, ◌++◌, take}
use Rattle.std.specs.List.{flat_map}
use Rattle.ocp_console.specs.Texts.{report_line}
use Rattle.ocp_console.proofs.texts.push_reports.Given as goal

abbrev pub invariant-loop-packet : goal.invariant-loop-packet
invariant-loop-packet g l = l.output.items ≡ l.initial.output.items ++ flat_map report_line (take l.packet-index l.packet-items)
