-- The packets of reports, one after another.
use Rattle.std.specs.Prelude.{ℕ, ◌+◌, ◌%◌, List, [], ◌∷◌, IsOk}
use Rattle.std.specs.List.{flat_map}
use Rattle.space_packet.specs.declared.range.TheConstants.{SEQUENCE_COUNTS}
use Rattle.pus_fields.specs.Telemetry.{Telemetry, telemetry_octets}
use Rattle.pus_fields.specs.TelemetryFaults as reading
use Rattle.obcp_messages.specs.Report.{service_of, kind_of, report_data}
use Rattle.ocp_reports.specs.Origin.{Dispatch}

-- a report's packet: its sequence count is the number of reports before it modulo SEQUENCE_COUNTS
abbrev pub telemetry_of : ℕ → ℕ → Dispatch → Telemetry
telemetry_of apid count dispatch = record {
  apid = apid;
  count = count % SEQUENCE_COUNTS;
  service = service_of dispatch.report;
  subtype = kind_of dispatch.report;
  destination = dispatch.destination;
  time = dispatch.time;
  payload = report_data dispatch.report;
}

-- the packets of reports, after `count` packets that were sent before
abbrev pub packets : ℕ → ℕ → List Dispatch → List (List ℕ)
packets apid count [] = []
packets apid count (dispatch ∷ dispatches) =
    telemetry_octets (telemetry_of apid count dispatch) ∷ packets apid (count + 1) dispatches

-- the octets are a packet that is read as telemetry
abbrev pub IsTelemetryPacket : List ℕ → Type 0
IsTelemetryPacket octets = IsOk (reading.telemetry_of octets)

-- the octets of all packets, in their order
abbrev pub together : List (List ℕ) → List ℕ
together packets = flat_map (λ (packet : List ℕ). packet) packets
