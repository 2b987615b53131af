-- Telemetry packets (CCSDS 133.0-B, 4.1; ECSS-E-ST-70-41C, 7.4.3).
use Rattle.std.specs.Prelude.{◌<◌, ℕ, ◌+◌, ◌*◌, ◌^◌, false, List, ◌++◌, length}
use Rattle.byteorder.specs.Endian.{big_bytes}
use Rattle.pus_fields.specs.Controlled.{IsControlled, whole_header}
use Rattle.pus_fields.specs.ErrorControl.{error_control}

-- what a telemetry packet carries; the time is in whole seconds
pub record Telemetry : Type 0 where
  pub apid : ℕ
  pub count : ℕ
  pub service : ℕ
  pub subtype : ℕ
  pub destination : ℕ
  pub time : ℕ
  pub payload : List ℕ

-- each number fits its field
pub record IsTelemetryInRange (tm : Telemetry) : Type 0 where
  pub apid : tm.apid < 2 ^ 11
  pub count : tm.count < 2 ^ 14
  pub service : tm.service < 2 ^ 8
  pub subtype : tm.subtype < 2 ^ 8
  pub destination : tm.destination < 2 ^ 16
  pub time : tm.time < 2 ^ 32

-- the secondary header, 11 octets: version number 2 (4 bits), time reference status 0 (4), service
-- type (8), message subtype (8), message type counter 0 (16), destination identifier (16), time
-- (32)
abbrev pub telemetry_secondary : Telemetry → List ℕ
telemetry_secondary tm =
    big_bytes 1 (2 * 2 ^ 4) ++ big_bytes 1 tm.service ++ big_bytes 1 tm.subtype ++ big_bytes 2 0
    ++ big_bytes 2 tm.destination ++ big_bytes 4 tm.time

-- the octets of a telemetry packet but its error control: version number 0 (3 bits), type 0 (1),
-- secondary header flag 1 (1), application process identifier (11), sequence flags 11 (2), sequence
-- count (14), the length of the data field less 1 (16), and the data field
abbrev pub telemetry_covered : Telemetry → List ℕ
telemetry_covered tm =
    big_bytes 2 (2 ^ 11 + tm.apid) ++ big_bytes 2 (3 * 2 ^ 14 + tm.count)
    ++ big_bytes 2 (length tm.payload + 12) ++ telemetry_secondary tm ++ tm.payload

-- the octets are the packet of this telemetry: its data field is the secondary header, the payload
-- and the error control of all octets before it
pub record IsTelemetry (octets : List ℕ) (tm : Telemetry) : Type 0 where
  pub in_range : IsTelemetryInRange tm
  pub controlled : IsControlled octets (whole_header false tm.apid tm.count)
      (telemetry_secondary tm ++ tm.payload)

-- the octets of telemetry, one packet for each
unfoldable pub telemetry_octets : Telemetry → List ℕ
telemetry_octets tm = telemetry_covered tm ++ big_bytes 2 (error_control (telemetry_covered tm))
