use Rattle.std.proofs.Common.{◌≡◌, ℕ, List, Ok, Err, Result, refl, ap}
use Rattle.std.specs.Prelude.{IsOk}
use Rattle.pus_fields.specs.Telemetry.{Telemetry}
use Rattle.pus_fields.specs.TelemetryFaults.{telemetry_of}
use Rattle.pus_fields.specs.declared.fault.TmFault.{TmFault}
use Rattle.ocp_reports.specs.Packets.{IsTelemetryPacket}
use Rattle.ocp_console.specs.Texts.{HasLine, line_of}
use Rattle.ocp_console.proofs.laws.reports_have_their_lines.Goals as goal

-- the value of an Ok
said_by : (r : Result Telemetry TmFault) → IsOk r → (tm : Telemetry) × (r ≡ Ok tm)
said_by (Ok tm) is = (tm, refl)
said_by (Err fault) is = absurd (cc is)

line_of_packet : (packet : List ℕ) → IsTelemetryPacket packet → HasLine packet
line_of_packet packet is =
    let tm = said_by (telemetry_of packet) is in
    record { said = tm.0; read = tm.1; line = ap line_of tm.1 }

pub returns : goal.returns
returns g c = λ k d within. line_of_packet _ (c.packets-packets.ensures.telemetry k d within)
