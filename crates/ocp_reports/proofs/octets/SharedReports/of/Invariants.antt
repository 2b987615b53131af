use Rattle.std.proofs.Common.{◌≡◌, ◌++◌, length}
use Rattle.std.specs.Prelude.{All}
use Rattle.ocp_reports.specs.Packets.{IsTelemetryPacket}
use Rattle.ocp_reports.proofs.octets.SharedReports.of.Given as goal

-- the packets that are copied, and those that are left
abbrev pub invariant-loop-packet : goal.invariant-loop-packet
invariant-loop-packet g l = record {
  copied : l.copies.items ++ l.packets ≡ l.initial.packets;
  telemetry : All IsTelemetryPacket l.copies.items;
}

abbrev pub decreases-loop-packet : goal.decreases-loop-packet
decreases-loop-packet g l = length l.packets
